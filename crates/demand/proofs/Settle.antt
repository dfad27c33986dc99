-- A pending command that ends between two events changes nothing of what is known.
use Prim.Native.Nat.{ℕ, zero, suc}
use mathlib.Core.List.{List}
use mathlib.Core.Logic.{◌⊎◌, inl, inr, ⊎_elim}
use mathlib.Core.Option.{none-ne-some}
use mathlib.Core.Path.{◌≡◌, sym, ◌∙◌}
use Rattle.pci.specs.Script.{Ask, Reply, good, failed, config_read16, config_read32, config_write16, config_write32, read, write, attributes, resource, stall, allocate, mapped, unmap, free, fence}
use Rattle.session.specs.Course.{Course, ret, ask}
use Rattle.card.specs.Card.{Card, kind, effect, Settles, same, ends, World, WorldStep, MayUse, Clear, Posts, Allowed}
use Rattle.card.proofs.View.{held_before}
use Rattle.card_calls.specs.SafeCourse.{SafeCourse}

pub settles_trans : (a b c : Card) → Settles a b → Settles b c → Settles a c
settles_trans a b c same y = y
settles_trans a b c (ends p s e) same = ends p s e
settles_trans a b c (ends p s e) (ends q t f) = absurd (none-ne-some q f)

-- what the card may use then it might use before
pub settled_uses : (c d : Card) → Settles c d → (x : ℕ) → MayUse d x → MayUse c x
unfolding effect
settled_uses c d same x z = z
settled_uses c d (ends p zero e) x (inl z) = ⊎_elim (λ y. inl y) (λ y. inr (p, e, inr (inr y))) (held_before (kind p.opcode) p c.held x z)
settled_uses c d (ends p (suc s) e) x (inl z) = inl z
settled_uses c d (ends p s e) x (inr (q, f, z)) = absurd (none-ne-some q f)

-- the world with another card
abbrev pub at : World → Card → World
at w d = record { card = d; host = w.host }

pub rests_at : (w v : World) → v.host ≡ w.host → v ≡ at w v.card
rests_at w v e = λ i. record { card = v.card; host = e i }

clear_settled : (w : World) (d : Card) (h : ℕ) → Settles w.card d → Clear w h → Clear (at w d) h
clear_settled w d h s x = record { hold = x.hold; handed = x.handed; own = x.own; unused = λ y z u. x.unused y z (settled_uses w.card d s y u) }

posts_settled : (w : World) (d : Card) (v : ℕ) → Settles w.card d → Posts w v → Posts (at w d) v
posts_settled w d v same x = record { idle = x.idle; addressed = x.addressed; carried = x.carried }
posts_settled w d v (ends p s e) x = absurd (none-ne-some p (sym x.idle ∙ e))

allowed_settled : (q : Ask) (i : List ℕ) (w : World) (d : Card) → Settles w.card d → Allowed i w q → Allowed i (at w d) q
unfolding clear_settled
allowed_settled (config_read16 o) i w d s x = tt
allowed_settled (config_read32 o) i w d s x = tt
allowed_settled (config_write16 o v) i w d s x = tt
allowed_settled (config_write32 o v) i w d s x = tt
allowed_settled (read b o) i w d s x = tt
allowed_settled (write b o v) i w d s x = (x.0, λ e f. posts_settled w d v s (x.1 e f))
allowed_settled (attributes o v) i w d s x = tt
allowed_settled (resource b) i w d s x = tt
allowed_settled (stall t) i w d s x = tt
allowed_settled (allocate n) i w d s x = λ e y u. x e y (settled_uses w.card d s y u)
allowed_settled (mapped h n) i w d s x = x
allowed_settled (unmap h) i w d s x = clear_settled w d h s x
allowed_settled (free h n) i w d s x = (clear_settled w d h s x.0, x.1)
allowed_settled (fence j) i w d s x = x

-- a step after it is a step before it
step_settled : (q : Ask) (r : Reply q) (w : World) (d : Card) (v : World) → Settles w.card d → WorldStep (at w d) q r v → WorldStep w q r v
step_settled (config_read16 o) r w d v s st = (settles_trans w.card d v.card s st.0, st.1)
step_settled (config_read32 o) r w d v s st = (settles_trans w.card d v.card s st.0, st.1)
step_settled (config_write16 o x) r w d v s st = (settles_trans w.card d v.card s st.0, st.1)
step_settled (config_write32 o x) r w d v s st = (settles_trans w.card d v.card s st.0, st.1)
step_settled (read b o) (good x) w d v s st = ((settles_trans w.card d v.card s st.0.0, st.0.1), st.1)
step_settled (read b o) failed w d v s st = (settles_trans w.card d v.card s st.0, st.1)
step_settled (write b o x) (good y) w d v s st = ((st.0.0, settles_trans w.card d st.0.0 s st.0.1, st.0.2), st.1)
step_settled (write b o x) failed w d v s st =
    (⊎_elim (λ z. inl (settles_trans w.card d v.card s z)) (λ z. inr (z.0, settles_trans w.card d z.0 s z.1, z.2)) st.0, st.1)
step_settled (attributes o x) r w d v s st = (settles_trans w.card d v.card s st.0, st.1)
step_settled (resource b) r w d v s st = (settles_trans w.card d v.card s st.0, st.1)
step_settled (stall t) r w d v s st = (settles_trans w.card d v.card s st.0, st.1)
step_settled (allocate n) r w d v s st = (settles_trans w.card d v.card s st.0, st.1)
step_settled (mapped h n) r w d v s st = (settles_trans w.card d v.card s st.0, st.1)
step_settled (unmap h) r w d v s st = (settles_trans w.card d v.card s st.0, st.1)
step_settled (free h n) r w d v s st = (settles_trans w.card d v.card s st.0, st.1)
step_settled (fence j) r w d v s st = ((st.0.0, settles_trans w.card d st.0.0 s st.0.1, st.0.2), st.1)

pub course_settled : {R : Type 0} (P : World → R → Type 1) (k : Course R) (w : World) (d : Card) → Settles w.card d → ((r : R) → P w r → P (at w d) r) → SafeCourse w k P → SafeCourse (at w d) k P
course_settled P (ret l r) w d s f x = f r x
course_settled P (ask q l k) w d s f x = (allowed_settled q l.inbox w d s x.0, λ r m v ok st. x.1 r m v ok (step_settled q r w d v s st))
