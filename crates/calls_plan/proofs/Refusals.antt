-- WHEN A CALL IS REFUSED, and what it then leaves. Document 01: "Several at one call: 20, 21, 22, 19, 18", "19 to 22 everything" is left as it was, and of 18 at a `lend`
-- nothing was asked yet.
use Prim.Native.Nat.{ℕ}
use mathlib.Core.Bool.{Bool, true, false}
use mathlib.Core.List.{List}
use mathlib.Core.Path.{◌≡◌, refl, ap, sym, ◌∙◌}
use lib.Dec.{leb}
use Rattle.fields.specs.Outcome.{refused, pick}
use Rattle.dma.specs.Buffers.{pages_for}
use Rattle.hcr.specs.Words.{is_reserved}
use Rattle.pci.specs.declared.Refusal.{Refusal}
use Rattle.pci.specs.declared.Refusal.TheVariants as x
use Rattle.session.specs.Session.{fresh}
use Rattle.session.specs.declared.Top.{Top}
use Rattle.session.specs.declared.Failure.{Failure}
use Rattle.session.specs.declared.Failure.TheVariants as f
use Rattle.session.specs.declared.Session.{Session}
use Rattle.client_plan.specs.declared.Request.{Request}
use Rattle.fw_plan.specs.Calls.{refused_of, in_time}
use Rattle.fw_plan.specs.declared.Turn.{Turn}
use Rattle.fw_plan.proofs.Refusals.{no_time, no_room, not_refused}
use Rattle.calls_plan.specs.Calls.{callable, lent_for, barred, by_opcode, by_pages, unless, admitted, admitted_in, admitted_out, begun_turn, begun_inbox, begun_outbox, call_of, call_in, call_out}
use Rattle.calls_plan.specs.declared.Call.{Call}
use Rattle.calls_plan.specs.declared.Call.TheVariants as k

module _ (s : Session) (input i o : List ℕ) (u : Top) where
  -- the call was refused, and everything is as it was
  pub record Left (c : Call) (w : Refusal) : Type 0 where
    pub turn : call_of s c input i o u ≡ refused_of s w u.count
    pub inbox : call_in s c input i o u ≡ i
    pub outbox : call_out s c input i o u ≡ o

  -- 20 first, whatever was lent
  pub wrong_time : (c : Call) → callable s c ≡ false → Left c x.Wrong
  wrong_time c e =
      record {
        turn = no_time (callable s c) (lent_for c input i o u) (admitted s c input i u) (refused_of s x.Short u.count) (refused_of s x.Wrong u.count) e;
        inbox = no_time (callable s c) (lent_for c input i o u) (admitted_in s c input i u) i i e;
        outbox = no_time (callable s c) (lent_for c input i o u) (admitted_out s c o u) o o e;
      }

  -- then 21
  pub too_short : (c : Call) → callable s c ≡ true → lent_for c input i o u ≡ false → Left c x.Short
  too_short c e d =
      record {
        turn = no_room (callable s c) (lent_for c input i o u) (admitted s c input i u) (refused_of s x.Short u.count) (refused_of s x.Wrong u.count) e d;
        inbox = no_room (callable s c) (lent_for c input i o u) (admitted_in s c input i u) i i e d;
        outbox = no_room (callable s c) (lent_for c input i o u) (admitted_out s c o u) o o e d;
      }

  in_time_lem : {A : Type 0} (time room : Bool) (good short wrong : A) → time ≡ true → room ≡ true → in_time time room good short wrong ≡ good
  in_time_lem time room good short wrong e d = ap (λ t. in_time t room good short wrong) e ∙ ap (λ r. in_time true r good short wrong) d

  -- then what bars the call
  pub is_barred : (c : Call) (w : Refusal) → callable s c ≡ true → lent_for c input i o u ≡ true → barred s c ≡ f.By w → Left c w
  is_barred c w e d b =
      record {
        turn = in_time_lem (callable s c) (lent_for c input i o u) (admitted s c input i u) (refused_of s x.Short u.count) (refused_of s x.Wrong u.count) e d
            ∙ ap (λ y. unless y (begun_turn s c input i u) (λ v. refused_of s v u.count)) b;
        inbox = in_time_lem (callable s c) (lent_for c input i o u) (admitted_in s c input i u) i i e d ∙ ap (λ y. unless y (begun_inbox s c input i u) (λ v. i)) b;
        outbox = in_time_lem (callable s c) (lent_for c input i o u) (admitted_out s c o u) o o e d ∙ ap (λ y. unless y (begun_outbox s c o u) (λ v. o)) b;
      }

  -- 22: a command whose opcode is reserved or above 0xfff, and an undo_to with such a record wanted
  pub reserved_command : (z : Request) → callable s (k.Command z) ≡ true → lent_for (k.Command z) input i o u ≡ true → is_reserved z.op ≡ true → Left (k.Command z) x.Opcode
  reserved_command z e d r = is_barred (k.Command z) x.Opcode e d (ap by_opcode r)

  pub reserved_undo : (mark : ℕ) → callable s (k.UndoTo mark true) ≡ true → lent_for (k.UndoTo mark true) input i o u ≡ true → Left (k.UndoTo mark true) x.Opcode
  reserved_undo mark e d = is_barred (k.UndoTo mark true) x.Opcode e d refl

  -- 19: a 65th buffer, also where it has too many bytes; then 18
  pub full : (bytes : ℕ) → callable s (k.Lend bytes) ≡ true → lent_for (k.Lend bytes) input i o u ≡ true → leb 64 s.books.lists.lends ≡ true → Left (k.Lend bytes) x.Full
  full bytes e d r = is_barred (k.Lend bytes) x.Full e d (ap (λ b. pick b (f.By x.Full) (by_pages (pages_for bytes))) r)

  pub too_many_bytes : (bytes : ℕ) → callable s (k.Lend bytes) ≡ true → lent_for (k.Lend bytes) input i o u ≡ true → leb 64 s.books.lists.lends ≡ false
      → (n : ℕ) (vs : List ℕ) → pages_for bytes ≡ refused n vs → Left (k.Lend bytes) x.Address
  too_many_bytes bytes e d r n vs p =
      is_barred (k.Lend bytes) x.Address e d (ap (λ b. pick b (f.By x.Full) (by_pages (pages_for bytes))) r ∙ ap by_pages p)

-- A CALL THAT IS REFUSED leaves both mailboxes
unless_left : (y : Failure) (good : Turn) (s : Session) (n : ℕ) (s' l : List ℕ) (w : Refusal) → good.refusal ≡ f.Nothing → (unless y good (λ v. refused_of s v n)).refusal ≡ f.By w
    → unless y s' (λ v. l) ≡ l
unless_left f.Nothing good s n s' l w g h = absurd (not_refused w (sym g ∙ h))
unless_left (f.By v) good s n s' l w g h = refl

left_of : (time room : Bool) (y : Failure) (good short wrong : Turn) (s : Session) (n : ℕ) (s' l : List ℕ) (w : Refusal) → good.refusal ≡ f.Nothing
    → (in_time time room (unless y good (λ v. refused_of s v n)) short wrong).refusal ≡ f.By w → in_time time room (unless y s' (λ v. l)) l l ≡ l
left_of true true y good short wrong s n s' l w g h = unless_left y good s n s' l w g h
left_of true false y good short wrong s n s' l w g h = refl
left_of false true y good short wrong s n s' l w g h = refl
left_of false false y good short wrong s n s' l w g h = refl

begun_good : (s : Session) (c : Call) (y i : List ℕ) (u : Top) → (begun_turn s c y i u).refusal ≡ f.Nothing
unfolding begun_turn
begun_good s c y i u = refl

pub call_left_lem : (s : Session) (c : Call) (y i o : List ℕ) (u : Top) (w : Refusal) → (call_of s c y i o u).refusal ≡ f.By w → (call_in s c y i o u ≡ i) × (call_out s c y i o u ≡ o)
call_left_lem s c y i o u w h = (
  left_of (callable s c) (lent_for c y i o u) (barred s c) (begun_turn s c y i u) (refused_of s x.Short u.count) (refused_of s x.Wrong u.count) s u.count (begun_inbox s c y i u) i w (begun_good s c y i u) h,
  left_of (callable s c) (lent_for c y i o u) (barred s c) (begun_turn s c y i u) (refused_of s x.Short u.count) (refused_of s x.Wrong u.count) s u.count (begun_outbox s c o u) o w (begun_good s c y i u) h,
)

-- a session that was never opened can be opened
pub fresh_opens : callable fresh k.Open ≡ true
fresh_opens = refl
