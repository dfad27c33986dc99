-- What a command leaves, whatever the card does.
use Prim.Native.Nat.{ℕ, zero, suc, ◌+◌, ◌*◌, ◌/◌, ◌%◌, ◌^◌, ◌<◌, ◌≤◌}
use native.Mathlib.Omega.{arith}
use mathlib.Core.Bool.{Bool, true, false, not, false≢true}
use mathlib.Core.List.{List}
use mathlib.Core.Logic.{inl, inr, ⊎_elim}
use mathlib.Core.Option.{Option, some, none, some-injective, none-ne-some}
use mathlib.Core.Path.{◌≡◌, refl, sym, ◌∙◌, ap, ap₂, subst}
use lib.Dec.{eqb}
use borrow.Author.Tests.{eq-eqb, ne_eqb, eqb-true, eqb-false}
use Rattle.fields.specs.Outcome.{pick}
use Rattle.hcr.specs.Words.{digit, same as alike, pending_in, go_word, register, waited_of}
use Rattle.hcr.specs.declared.Post.{Post}
use Rattle.pci.specs.Script.{Script, ask, Bus, good, failed, read, write}
use Rattle.command.specs.Script.{STALLS, ending, on_read, on_write, reading, timed_out, words, low, immediate, judged, verdict, poll, write_all, start, fenced as fencing, command}
use Rattle.command.specs.declared.Catas.{Catas}
use Rattle.command.specs.declared.Catas.TheVariants.{Known, Unknown}
use Rattle.command.specs.declared.CmdResult.{CmdResult}
use Rattle.command.specs.declared.CmdResult.TheVariants as r
use Rattle.command.specs.declared.CmdEnd.{CmdEnd}
use Rattle.card.specs.Card.{Held, Mail, Command, Card, effect, result, same, ends, go_of, tbit_of, status_of, written, begin, put, store, take, Shows, Takes, Host, Ours, World, WorldStep, mail_at, IsMap, Carries, kind, StandsAt, Posts}
use Rattle.card.specs.Safe.{Safe}
use Rattle.card.proofs.Sequence.{safe_pick}
use Rattle.card.specs.Known.{Carried, During, Fits, Going, Loose, Or, Out, Over, Quiet, Stable, Within, posted_as}
use Rattle.card.proofs.Bools.{or_left, or_right}

-- nothing is pending, and the registers hold f
abbrev pub At : Held → (ℕ → ℕ) → Card → Type 1
At h f c = (c.pending ≡ none) × (c.held ≡ h) × (c.registers ≡ f)

none≢ : {x : Option Command} {p : Command} → x ≡ none → x ≡ some p → ⊥
none≢ {p = p} e f = none-ne-some p (sym e ∙ f)

some≡ : {x : Option Command} {p q : Command} → x ≡ some p → x ≡ some q → p ≡ q
some≡ {p = p} {q = q} e f = some-injective p q (sym e ∙ f)

pub quiet_stable : (H : Held → Type 1) → Stable (Quiet H)
quiet_stable H c d same h = h
quiet_stable H c d (ends p s e) h = absurd (none≢ h.0 e)

pub within_stable : (H : Held → Type 1) (Q : Command → Type 0) → Stable (Within H Q)
within_stable H Q c d same h = h
within_stable H Q c d (ends p zero e) h = record { now = (h.then p e).1; then = λ q f. absurd (none≢ refl f) }
within_stable H Q c d (ends p (suc s) e) h = record { now = h.now; then = λ q f. absurd (none≢ refl f) }

at_stable : (h : Held) (f : ℕ → ℕ) → Stable (At h f)
at_stable h f c d same x = x
at_stable h f c d (ends p s e) x = absurd (none≢ x.0 e)

over_stable : (p : Command) (h : Held) → Stable (Over p h)
over_stable p h c d same x = x
over_stable p h c d (ends q s e) x = absurd (none≢ x.0 e)

-- it is over, with status 0
abbrev Well : Command → Held → Card → Type 1
Well p h c = Over p h c × (c.status ≡ 0)

well_stable : (p : Command) (h : Held) → Stable (Well p h)
well_stable p h c d same x = x
well_stable p h c d (ends q s e) x = absurd (none≢ x.0.0 e)

pub going_stable : (p : Command) (h : Held) → Stable (Going p h)
going_stable p h c d same x = x
going_stable p h c d (ends q s e) (inl x) = inr (refl, x.1, ap₂ (λ (u : Command) (g : Held). result s u g) (some≡ e x.0) x.2)
going_stable p h c d (ends q s e) (inr x) = absurd (none≢ x.0 e)

pub quiet_within : (H : Held → Type 1) (Q : Command → Type 0) (c : Card) → Quiet H c → Within H Q c
quiet_within H Q c h = record { now = h.1; then = λ p e. absurd (none≢ h.0 e) }

pub within_more : (H G : Held → Type 1) (Q R : Command → Type 0) (c : Card) → ((g : Held) → H g → G g) → ((q : Command) → Q q → R q) → Within H Q c → Within G R c
within_more H G Q R c f k x = record { now = f c.held x.now; then = λ q e. let y = x.then q e in (k q y.0, f (effect q c.held) y.1) }

during_result : (p : Command) (H : Held → Type 1) (h g : Held) (s : ℕ) → H h → g ≡ result s p h → During p H g
during_result p H h g zero x e = inr (h, x, e)
during_result p H h g (suc s) x e = inl (subst H (sym e) x)

-- a command that is not seen done: its effect may or may not have happened, and it may be pending
pub loose_within : (p : Command) (H : Held → Type 1) (Q : Command → Type 0) (c : Card) → Loose p H Q c → Within (During p H) (Or Q p) c
loose_within p H Q c (inl x) = record { now = inl x.now; then = λ q e. let y = x.then q e in (inl y.0, inl y.1) }
loose_within p H Q c (inr (h, x, inl y)) = record {
  now = inl (subst H (sym y.2) x);
  then = λ q e. (inr (some≡ e y.0), inr (h, x, ap₂ effect (some≡ e y.0) y.2));
}
loose_within p H Q c (inr (h, x, inr y)) =
    record { now = during_result p H h c.held c.status x y.2; then = λ q e. absurd (none≢ y.0 e) }

loose_mine : (p : Command) (H : Held → Type 1) (Q : Command → Type 0) → ((g : Held) → H g → H (effect p g)) → Q p → (c : Card) → Loose p H Q c → Within H Q c
loose_mine p H Q keeps mine c x = within_more (During p H) H (Or Q p) Q c during (λ q y. ⊎_elim (λ z. z) (λ z. subst Q (sym z) mine) y) (loose_within p H Q c x)
  where
    during : (g : Held) → During p H g → H g
    during g (inl y) = y
    during g (inr (h, y, e)) = subst H (sym e) (keeps h y)

-- however a command ended: what it leaves of H is in H, and it is one of Q itself
pub out_within : (p : Command) (H : Held → Type 1) (Q : Command → Type 0) → ((g : Held) → H g → H (effect p g)) → Q p → (a : CmdResult) (c : Card) → Out p H Q a c → Within H Q c
out_within p H Q keeps mine (r.Done x us) c m = quiet_within H Q c (m.0, after m.1)
  where
    after : (h : Held) × H h × (c.held ≡ effect p h) → H c.held
    after (h, x, e) = subst H (sym e) (keeps h x)
out_within p H Q keeps mine (r.Status s us) c m = quiet_within H Q c m
out_within p H Q keeps mine (r.Timeout us) c m = loose_mine p H Q keeps mine c m
out_within p H Q keeps mine r.Busy c m = m
out_within p H Q keeps mine (r.Bus us) c m = loose_mine p H Q keeps mine c m

-- THE POSTED-COMMAND LEMMA

alike_self : (a b : Bool) → a ≡ b → alike a b ≡ true
alike_self true b e = sym e
alike_self false b e = ap not (sym e)

-- Where a status read says "not pending", no command is pending, and the last one taken had another T than the toggle: so one whose write at 0x18 was reported
-- failed, with the toggle as it was, was not taken.
pub posted : (c : Card) (t : Bool) (v : ℕ) → Shows c v → pending_in v t ≡ false → (c.pending ≡ none) × (c.last ≡ some t → ⊥)
posted c t v shows e = (quiet, λ f. false≢true (sym (or_right (go_of v) (alike (tbit_of v) t) e) ∙ alike_self (tbit_of v) t (shows.when_done t quiet f).0))
  where
    at : (o : Option Command) → c.pending ≡ o → c.pending ≡ none
    at none f = f
    at (some p) f = absurd (false≢true (sym (or_left (go_of v) (alike (tbit_of v) t) e) ∙ shows.while_pending p f))

    quiet : c.pending ≡ none
    quiet = at c.pending refl

pub not_taken : (p : Command) (H : Held → Type 1) (Q : Command → Type 0) (c : Card) (v : ℕ) → Shows c v → pending_in v p.tbit ≡ false → Loose p H Q c → Quiet H c
not_taken p H Q c v shows e (inl x) = ((posted c p.tbit v shows e).0, x.now)
not_taken p H Q c v shows e (inr (h, x, inl y)) = absurd ((posted c p.tbit v shows e).1 y.1)
not_taken p H Q c v shows e (inr (h, x, inr y)) = absurd ((posted c p.tbit v shows e).1 y.1)

-- THE WRITTEN COMMAND IS THE ONE THAT WAS MEANT

halves : (x : ℕ) → x / 2 ^ 32 * 2 ^ 32 + x % 2 ^ 32 ≡ x
halves x = omega arith

opcode_of : (a b d : ℕ) → a < 0x1000 → (2 ^ 23 + d * 2 ^ 21 + b * 2 ^ 12 + a % 2 ^ 12) % 0x1000 ≡ a
opcode_of a b d h = omega arith

pub tbit_of_lem : (t : Bool) (b a : ℕ) → a < 0x1000 → b < 0x100 → tbit_of (go_word t b a) ≡ t
tbit_of_lem true b a h k = eq-eqb ((2 ^ 23 + 1 * 2 ^ 21 + b * 2 ^ 12 + a % 2 ^ 12) / 2 ^ 21 % 2) 1 (omega arith)
tbit_of_lem false b a h k =
    ne_eqb ((2 ^ 23 + 0 * 2 ^ 21 + b * 2 ^ 12 + a % 2 ^ 12) / 2 ^ 21 % 2) 1
    (λ e. let z : (2 ^ 23 + 0 * 2 ^ 21 + b * 2 ^ 12 + a % 2 ^ 12) / 2 ^ 21 % 2 ≡ 0 = omega arith in let y : ⊥ = omega (arith, e, z) in y)

digit_le : (t : Bool) → digit t ≤ 1
digit_le true = omega arith
digit_le false = omega arith

pub go_of_lem : (t : Bool) (b a : ℕ) → a < 0x1000 → b < 0x100 → go_of (go_word t b a) ≡ true
go_of_lem t b a h k =
    let d = digit_le t in eq-eqb ((2 ^ 23 + digit t * 2 ^ 21 + b * 2 ^ 12 + a % 2 ^ 12) / 2 ^ 23 % 2) 1 (omega (arith, d))

go_small : (t : Bool) (b a : ℕ) → a < 0x1000 → b < 0x100 → go_word t b a < 2 ^ 32
go_small t b a h k = let d = digit_le t in omega (arith, d)

-- the six registers as they are written
abbrev filled : Post → (ℕ → ℕ) → ℕ → ℕ
filled p f =
    put (put (put (put (put (put f 0x80680 (p.in_param / 2 ^ 32)) 0x80684 (p.in_param % 2 ^ 32)) 0x80688 p.in_mod) 0x8068c (p.out_param / 2 ^ 32)) 0x80690
    (p.out_param % 2 ^ 32)) 0x80694 0xffff0000

written_is : (t : Bool) (p : Post) (m : Mail) (c : Card) (f : ℕ → ℕ) → Fits p m → c.registers ≡ filled p f → c.mail ≡ m
    → written c (go_word t p.op_mod p.op) ≡ posted_as t p m
written_is t p m c f fits e q = λ i. record {
  opcode = opcode_of p.op p.op_mod (digit t) fits.op i;
  in_mod = ap (λ (g : ℕ → ℕ). g 0x80688) e i;
  in_param = (ap (λ (g : ℕ → ℕ). g 0x80680 * 2 ^ 32 + g 0x80684) e ∙ halves p.in_param) i;
  tbit = tbit_of_lem t p.op_mod p.op fits.op fits.op_mod i;
  mail = q i;
}

-- THE COMMAND

module _ (catas : Catas) (i : List ℕ) (t : Bool) (o : Post) (H : Held → Type 1) (Q : Command → Type 0) (l : Host) where
  abbrev p : Command
  p = posted_as t o (mail_at l i)

  abbrev pub CmdPost : World → CmdEnd → Type 1
  CmdPost w e = (w.host ≡ l) × Out p H Q e.result w.card

  -- a register is read: what is stable stays, and the status dword shows what it shows
  safe_read : (x : ℕ) (e : CmdEnd) (k : ℕ → Script CmdEnd) (I : Card → Type 1) (w : World) → Stable I → ((c : Card) → I c → Out p H Q e.result c) → w.host ≡ l → I w.card
      → ((v : World) (y : ℕ) → v.host ≡ l → I v.card → (register x ≡ 0x80698 → Shows v.card y) → Safe i v (k y) CmdPost) → Safe i w (reading x e k) CmdPost
  safe_read x e k I w stable bus f j next = (tt, at)
    where
      at : (z : Bus ℕ) (v : World) → WorldStep w (read 0 (register x)) z v → Safe i v (on_read e k z) CmdPost
      at (good y) v st = next v y (st.1 ∙ f) (stable w.card v.card st.0.0 j) (λ q. st.0.1 refl q)
      at failed v st = (st.1 ∙ f, bus v.card (stable w.card v.card st.0 j))

  -- a register is written
  safe_write : (x y : ℕ) (e : CmdEnd) (k : Script CmdEnd) (I J : Card → Type 1) (w : World) → Stable I → Stable J → y < 2 ^ 32 → (x ≡ 0x80698 → Posts w y)
      → ((c : Card) → I c → J (take c 0 x y)) → ((c : Card) → I c → Out p H Q e.result c) → ((c : Card) → J c → Out p H Q e.result c) → w.host ≡ l → I w.card
      → ((v : World) → v.host ≡ l → J v.card → Safe i v k CmdPost) → Safe i w (ask (write 0 x y) (on_write e k)) CmdPost
  safe_write x y e k I J w stable stableJ small posts takes busI busJ f j next = ((small, λ _ z. posts z), at)
    where
      taken : (d : Card) → Takes w.card 0 x y d → J d
      taken d st = stableJ (take st.0 0 x y) d st.2 (takes st.0 (stable w.card st.0 st.1 j))

      at : (z : Bus (Unit {0})) (v : World) → WorldStep w (write 0 x y) z v → Safe i v (on_write e k z) CmdPost
      at (good u) v st = next v (st.1 ∙ f) (taken v.card st.0)
      at failed v st = (st.1 ∙ f, ⊎_elim (λ s. busI v.card (stable w.card v.card s j)) (λ s. busJ v.card (taken v.card s)) st.0)

  -- after the write at 0x18 was reported good
  module _ (h : Held) (x : H h) where
    abbrev flipped : Bool
    flipped = not t

    going-bus : (us : ℕ) (c : Card) → Going p h c → Out p H Q (r.Bus us) c
    going-bus us c g = inr (h, x, g)

    well-bus : (us : ℕ) (c : Card) → Well p h c → Out p H Q (r.Bus us) c
    well-bus us c j = going-bus us c (inr j.0)

    safe-immediate : (us : ℕ) (w : World) → w.host ≡ l → Well p h w.card → Safe i w (immediate catas i flipped us) CmdPost
    unfolding immediate low
    safe-immediate us w f g =
        safe_read 0x0c _ _ (Well p h) w (well_stable p h) (well-bus us) f g (λ v a e j _.
        safe_read 0x10 _ _ (Well p h) v (well_stable p h) (well-bus us) e j (λ u b d k _.
        (d, (k.0.0, (h, x, k.0.2 ∙ ap (λ (s : ℕ). result s p h) k.1)))))

    not_zero : (s : ℕ) (g : Held) → (s ≡ 0 → ⊥) → g ≡ result s p h → H g
    not_zero zero g n e = absurd (n refl)
    not_zero (suc s) g n e = subst H (sym e) x

    safe-judged : (us : ℕ) (w : World) → w.host ≡ l → Over p h w.card → Safe i w (judged catas i flipped us) CmdPost
    unfolding judged
    safe-judged us w f g =
        safe_read 0x18 _ _ (Over p h) w (over_stable p h) (λ c j. going-bus us c (inr j)) f g (λ v a e j shows.
        let s : status_of a ≡ v.card.status = ((shows refl).when_done t j.0 j.1).1 in
        safe_pick i (eqb (status_of a) 0) _ _ v CmdPost
        (λ q. safe-immediate us v e (j, sym s ∙ eqb-true (status_of a) 0 q))
        (λ q. (e, (j.0, not_zero v.card.status v.card.held (λ z. eqb-false (status_of a) 0 q (s ∙ z)) j.2))))

    safe-verdict : (us : ℕ) (w : World) → w.host ≡ l → Over p h w.card → Safe i w (verdict catas i flipped us) CmdPost
    unfolding verdict
    safe-verdict us w f g = (
      refl,
      λ z v st. safe-judged us v (st.1 ∙ f) (subst (Over p h) (sym st.0.2) (over_stable p h w.card st.0.0 st.0.1 g)),
    )

    over : (c : Card) (v : ℕ) → Shows c v → pending_in v flipped ≡ false → Going p h c → Over p h c
    over c v shows e (inl g) = absurd (none≢ (posted c flipped v shows e).0 g.0)
    over c v shows e (inr g) = g

    -- the catastrophic buffer is read, and nothing comes of it
    safe-timed-out : (k : Catas) (us : ℕ) (w : World) → w.host ≡ l → Going p h w.card → Safe i w (timed_out k (ending flipped (r.Timeout us))) CmdPost
    safe-timed-out (Known b off) us w f g = (tt, at)
      where
        at : (z : Bus ℕ) (v : World) → WorldStep w (read b off) z v → CmdPost v (ending flipped (r.Timeout us))
        at (good y) v st = (st.1 ∙ f, inr (h, x, going_stable p h w.card v.card st.0.0 g))
        at failed v st = (st.1 ∙ f, inr (h, x, going_stable p h w.card v.card st.0 g))
    safe-timed-out Unknown us w f g = (f, inr (h, x, g))

    -- the poll loop, by induction on the stalls that are left
    safe-poll : (left n : ℕ) (w : World) → w.host ≡ l → Going p h w.card → Safe i w (poll catas i flipped n left) CmdPost
    unfolding poll
    safe-poll zero n w f g =
        safe_read 0x18 _ _ (Going p h) w (going_stable p h) (going-bus (waited_of n)) f g (λ v a e j shows.
        safe_pick i (pending_in a flipped) _ _ v CmdPost
        (λ q. safe-timed-out catas (waited_of n) v e j)
        (λ q. safe-verdict (waited_of n) v e (over v.card a (shows refl) q j)))
    safe-poll (suc left) n w f g =
        safe_read 0x18 _ _ (Going p h) w (going_stable p h) (going-bus (waited_of n)) f g (λ v a e j shows.
        safe_pick i (pending_in a flipped) _ _ v CmdPost
        (λ q. (tt, λ z u st. safe-poll left (suc n) u (st.1 ∙ e) (going_stable p h v.card u.card st.0 j)))
        (λ q. safe-verdict (waited_of n) v e (over v.card a (shows refl) q j)))

    -- before it
    at-bus : (f : ℕ → ℕ) (c : Card) → At h f c → Out p H Q (r.Bus 0) c
    at-bus f c j = inl (quiet_within H Q c (j.0, subst H (sym j.1) x))

    safe-fill : (y v : ℕ) (k : Script CmdEnd) (f : ℕ → ℕ) (w : World) → eqb y 0x80698 ≡ false → v < 2 ^ 32 → ((c : Card) → take c 0 y v ≡ store c y v) → w.host ≡ l → At h f w.card
        → ((u : World) → u.host ≡ l → At h (put f y v) u.card → Safe i u k CmdPost) → Safe i w (ask (write 0 y v) (on_write (ending t (r.Bus 0)) k)) CmdPost
    safe-fill y v k f w plain small stores e j next =
        safe_write y v _ k (At h f) (At h (put f y v)) w (at_stable h f) (at_stable h (put f y v)) small (λ z. absurd (false≢true (sym plain ∙ eq-eqb y 0x80698 z)))
        (λ c m. subst (At h (put f y v)) (sym (stores c)) (m.0, m.1, ap (λ (g : ℕ → ℕ). put g y v) m.2))
        (at-bus f) (at-bus (put f y v)) e j next

    abbrev Ready : (ℕ → ℕ) → Card → Type 1
    Ready f c = At h f c × (c.mail ≡ mail_at l i)

    ready-stable : (f : ℕ → ℕ) → Stable (Ready f)
    ready-stable f c d same j = j
    ready-stable f c d (ends q s e) j = absurd (none≢ j.0.0 e)

    abbrev go : ℕ
    go = go_word t o.op_mod o.op

    begun : (f : ℕ → ℕ) → Fits o (mail_at l i) → (c : Card) → Ready (filled o f) c → Going p h (take c 0 0x80698 go)
    begun f fits c j =
        let e = written_is t o (mail_at l i) c f fits j.0.2 j.1 in
        subst (λ (b : Bool). Going p h (pick b (begin c (written c go)) c)) (sym (go_of_lem t o.op_mod o.op fits.op fits.op_mod))
        (inl (ap some e, ap (λ (q : Command). some q.tbit) e, j.0.1))

    posts : (f : ℕ → ℕ) → Fits o (mail_at l i) → Carried o l i → (w : World) → w.host ≡ l → Ready (filled o f) w.card → Posts w go
    posts f fits car w e j =
        let q = sym (written_is t o (mail_at l i) w.card f fits j.0.2 j.1) in
        record {
          idle = j.0.0;
          addressed = subst (λ (c : Command). IsMap (kind c.opcode) → StandsAt c.mail.inbox c.in_param) q fits.addressed;
          carried = subst (λ (c : Command). (d : ℕ) → Carries c d → Ours w.host d) q (subst (λ (k : Host). (d : ℕ) → Carries p d → Ours k d) (sym e) car);
        }

    safe-start : (f : ℕ → ℕ) → Fits o (mail_at l i) → Carried o l i → (w : World) → w.host ≡ l → Ready (filled o f) w.card → Safe i w (start catas i t o) CmdPost
    unfolding start
    safe-start f fits car w e j =
        safe_write 0x80698 go _ _ (Ready (filled o f)) (Going p h) w (ready-stable (filled o f)) (going_stable p h) (go_small t o.op_mod o.op fits.op fits.op_mod)
        (λ z. posts f fits car w e j) (begun f fits)
        (λ c m. at-bus (filled o f) c m.0) (λ c g. inr (h, x, g)) e j
        (λ v d g. safe-poll STALLS 0 v d g)

    safe-fenced : (f : ℕ → ℕ) → Fits o (mail_at l i) → Carried o l i → (w : World) → w.host ≡ l → At h (filled o f) w.card → Safe i w (fencing catas i t o) CmdPost
    unfolding fencing
    safe-fenced f fits car w e j = (
      refl,
      λ z v st.
          safe-start f fits car v (st.1 ∙ e)
          (subst (Ready (filled o f)) (sym st.0.2) (at_stable h (filled o f) w.card st.0.0 st.0.1 j, ap (λ (k : Host). mail_at k i) e)),
    )

    safe-post : Fits o (mail_at l i) → Carried o l i → (w : World) → w.host ≡ l → At h w.card.registers w.card → Safe i w (write_all catas i t 0x00 (words o) (fencing catas i t o)) CmdPost
    unfolding write_all
    safe-post fits car w e j =
        let a = fits.in_param in let b = fits.out_param in
        safe-fill 0x80680 _ _ _ w refl (let g : o.in_param / 2 ^ 32 < 2 ^ 32 = omega (arith, a) in g) (λ c. refl) e j (λ w1 e1 j1.
        safe-fill 0x80684 _ _ _ w1 refl (let g : o.in_param % 2 ^ 32 < 2 ^ 32 = omega arith in g) (λ c. refl) e1 j1 (λ w2 e2 j2.
        safe-fill 0x80688 _ _ _ w2 refl fits.in_mod (λ c. refl) e2 j2 (λ w3 e3 j3.
        safe-fill 0x8068c _ _ _ w3 refl (let g : o.out_param / 2 ^ 32 < 2 ^ 32 = omega (arith, b) in g) (λ c. refl) e3 j3 (λ w4 e4 j4.
        safe-fill 0x80690 _ _ _ w4 refl (let g : o.out_param % 2 ^ 32 < 2 ^ 32 = omega arith in g) (λ c. refl) e4 j4 (λ w5 e5 j5.
        safe-fill 0x80694 _ _ _ w5 refl (let g : 0xffff0000 < 2 ^ 32 = omega arith in g) (λ c. refl) e5 j5 (λ w6 e6 j6.
        safe-fenced w.card.registers fits car w6 e6 j6))))))

  -- Whatever was pending before it, and whatever was held.
  pub safe_command : Fits o (mail_at l i) → Carried o l i → (w : World) → w.host ≡ l → Within H Q w.card → Safe i w (command catas i t o) CmdPost
  unfolding command
  safe_command fits car w e j =
      safe_read 0x18 _ _ (Within H Q) w (within_stable H Q) (λ c m. inl m) e j (λ v a f m shows.
      safe_pick i (pending_in a t) _ _ v CmdPost
      (λ q. (f, m))
      (λ q. safe-post v.card.held m.now fits car v f ((posted v.card t a (shows refl) q).0, refl, refl)))
