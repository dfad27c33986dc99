-- WHAT STANDS BEHIND THE HEAD WHEN A PLAN BEGINS, and what the bytes hold once its head is written.
use Prim.Native.Nat.{ℕ, ◌<◌, ◌≤◌}
use mathlib.Core.Bool.{Bool, true, false}
use mathlib.Core.Path.{◌≡◌, refl, ap, sym, ◌∙◌}
use mathlib.Core.List.{List}
use borrow.Author.Tests.{lt-ltb, ltb-true, ltb-false}
use lib.Dec.{ltb}
use lib.ListN.{length}
use Rattle.fields.specs.Outcome.{value, pick}
use Rattle.words.specs.Places.{state_bytes}
use Rattle.words_session.specs.Image.{decode_of}
use Rattle.words_laws.specs.Kept.{HeadFits}
use Rattle.words_laws.proofs.Parts.{given, decode_parts, parts_decode}
use Rattle.words_laws.proofs.Put.{put_head_lem}
use Rattle.words_laws.proofs.Rewrites.{rewrites_begun}
use Rattle.reply.specs.declared.DevCap.{DevCap}
use Rattle.work.specs.declared.Task.{Task}
use Rattle.work.specs.declared.Task.TheVariants as t
use Rattle.session.specs.Core.{Behind, none_behind, full, begun, is_reset, is_find}
use Rattle.session.specs.declared.Boot.{Boot}
use Rattle.session.specs.declared.Core.{Core}
use Rattle.session.specs.declared.Slot.{Slot}
use Rattle.session.specs.declared.Stage.{Stage}
use Rattle.session.specs.declared.Stage.TheVariants as g
use Rattle.behind.specs.Behind.{behind_in, begun_in}
use Rattle.behind.proofs.Laws.{short, put_short, pick_same}
use Rattle.bytes_plan.specs.Left.{headed_in}
use Rattle.abi.specs.Kept.{Writes}

-- where the bytes are too few, nothing is written, and nothing stands there
begun_none : (y : Stage) (k : Task) → begun y k none_behind ≡ none_behind
begun_none y t.Rest = refl
begun_none y (t.Attr z) = refl
begun_none y (t.Claim z) = refl
begun_none y t.Reset = pick_same (is_reset y) none_behind
begun_none y t.Bar = pick_same (is_find y) none_behind
begun_none y (t.Make z) = refl
begun_none y (t.Free z) = refl
begun_none y t.Look = refl
begun_none y (t.Cmd z) = refl
begun_none y (t.Part z) = refl

left_as : (b : Bool) (xs ys : List ℕ) → xs ≡ ys → pick b ys xs ≡ xs
left_as true xs ys e = sym e
left_as false xs ys e = refl

begun_short : (y : Stage) (k : Task) (s : List ℕ) → length s < state_bytes → begun_in y k s ≡ s
begun_short y t.Rest s h = refl
begun_short y (t.Attr z) s h = refl
begun_short y (t.Claim z) s h = refl
begun_short y t.Reset s h = left_as (is_reset y) s _ (put_short _ _ s h)
begun_short y t.Bar s h = left_as (is_find y) s _ (put_short _ _ s h)
begun_short y (t.Make z) s h = refl
begun_short y (t.Free z) s h = refl
begun_short y t.Look s h = refl
begun_short y (t.Cmd z) s h = refl
begun_short y (t.Part z) s h = refl

-- a task that begins is read there, whatever the bytes
pub begun_reads : (y : Stage) (k : Task) (s : List ℕ) → behind_in (begun_in y k s) ≡ begun y k (behind_in s)
begun_reads y k s = by (ltb (length s) state_bytes) refl
  where
    by : (b : Bool) → ltb (length s) state_bytes ≡ b → behind_in (begun_in y k s) ≡ begun y k (behind_in s)
    by true e =
        let h = ltb-true (length s) state_bytes e in
        let z = short s h in
        ap behind_in (begun_short y k s h) ∙ z ∙ sym (ap (begun y k) z ∙ begun_none y k)
    by false e = (rewrites_begun y k s (ltb-false (length s) state_bytes e)).reads

-- what begins leaves the slots and the capabilities
slots_kept : (b : Bool) (x y : Behind) → x.slots ≡ y.slots → (pick b x y).slots ≡ y.slots
slots_kept true x y e = e
slots_kept false x y e = refl

pub begun_slots : (y : Stage) (k : Task) (b : Behind) → (begun y k b).slots ≡ b.slots
begun_slots y t.Rest b = refl
begun_slots y (t.Attr z) b = refl
begun_slots y (t.Claim z) b = refl
begun_slots y t.Reset b = slots_kept (is_reset y) _ b refl
begun_slots y t.Bar b = slots_kept (is_find y) _ b refl
begun_slots y (t.Make z) b = refl
begun_slots y (t.Free z) b = refl
begun_slots y t.Look b = refl
begun_slots y (t.Cmd z) b = refl
begun_slots y (t.Part z) b = refl

caps_kept : (b : Bool) (x y : Behind) → x.cap ≡ y.cap → (pick b x y).cap ≡ y.cap
caps_kept true x y e = e
caps_kept false x y e = refl

pub begun_caps : (y : Stage) (k : Task) (b : Behind) → (begun y k b).cap ≡ b.cap
begun_caps y t.Rest b = refl
begun_caps y (t.Attr z) b = refl
begun_caps y (t.Claim z) b = refl
begun_caps y t.Reset b = caps_kept (is_reset y) _ b refl
begun_caps y t.Bar b = caps_kept (is_find y) _ b refl
begun_caps y (t.Make z) b = refl
begun_caps y (t.Free z) b = refl
begun_caps y t.Look b = refl
begun_caps y (t.Cmd z) b = refl
begun_caps y (t.Part z) b = refl

-- nothing begins with a task of bring-up
pub boot_begun : (y : Boot) (k : Task) (b : Behind) → begun (g.Boot y) k b ≡ b
boot_begun y t.Rest b = refl
boot_begun y (t.Attr z) b = refl
boot_begun y (t.Claim z) b = refl
boot_begun y t.Reset b = refl
boot_begun y t.Bar b = refl
boot_begun y (t.Make z) b = refl
boot_begun y (t.Free z) b = refl
boot_begun y t.Look b = refl
boot_begun y (t.Cmd z) b = refl
boot_begun y (t.Part z) b = refl

-- THE HEAD IS WRITTEN: it is read back with what stands behind it, where it fits
pub headed : (c : Core) (s t : List ℕ) → (c.ranges ≤ 14 → c.lends ≤ 64 → HeadFits c) → t ≡ headed_in (full c (begun c.stage c.task (behind_in s))) s
    → Writes s t (full c (begun c.stage c.task (behind_in s)))
unfolding Writes
headed c s t fit e c0 n d =
    let b = begun c.stage c.task (behind_in s) in
    let m = begun_in c.stage c.task s in
    let r = (given s (full c0 (behind_in s)) d).enough in
    let p = decode_parts m (full c0 b) ((rewrites_begun c.stage c.task s r).holds c0 d) in
    ap decode_of e ∙ parts_decode _ _ (put_head_lem m c0 c b (fit n.0 n.1) p)
