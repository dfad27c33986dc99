-- What the card may use, from what is known of what it holds.
use Prim.Native.Nat.{ℕ}
use mathlib.Core.Logic.{◌⊎◌, inl, inr, ⊎_elim}
use mathlib.Core.Option.{none-ne-some}
use mathlib.Core.Path.{◌≡◌, sym, ◌∙◌, ap, subst}
use Rattle.card.specs.Card.{Held, Command, Card, Kind, MapFa, UnmapFa, MapAux, UnmapAux, MapIcm, UnmapIcm, CloseHca, Other, kind, does, effect, Named, IsHeld, IsMap, MayUse}
use Rattle.card.specs.Known.{Empty, Nothing, Quiet}

pub nothing_empty : (g : Held) → Nothing g → Empty g
nothing_empty g e = subst Empty (sym e) (record { nothing = λ d z. ⊎_elim (λ i. i.1) (λ u. ⊎_elim (λ f. f) (λ y. ⊎_elim (λ a. a) (λ l. l) y) u) z })

-- nothing is pending: the card may use what it holds
pub quiet_uses : (H : Held → Type 1) (c : Card) → Quiet H c → (d : ℕ) → MayUse c d → (g : Held) × H g × IsHeld g d
quiet_uses H c q d (inl x) = (c.held, q.1, x)
quiet_uses H c q d (inr (p, e, x)) = absurd (none-ne-some p (sym q.0 ∙ e))

pub empty_uses : (c : Card) → Quiet Empty c → (d : ℕ) → MayUse c d → ⊥
empty_uses c q d u = let x = quiet_uses Empty c q d u in x.1.nothing d x.2

-- a command of no effect
pub other_effect : (p : Command) (h : Held) → kind p.opcode ≡ Other → effect p h ≡ h
unfolding effect
other_effect p h e = ap (λ (k : Kind). does k p h) e

-- what is held after a command is held before it, or named by it
pub held_before : (k : Kind) (p : Command) (h : Held) (d : ℕ) → IsHeld (does k p h) d → IsHeld h d ⊎ (IsMap k × Named p d)
held_before MapFa p h d (inl z) = inl (inl z)
held_before MapFa p h d (inr (inl (inl z))) = inl (inr (inl z))
held_before MapFa p h d (inr (inl (inr z))) = inr (tt, z)
held_before MapFa p h d (inr (inr z)) = inl (inr (inr z))
held_before UnmapFa p h d (inl z) = inl (inl z)
held_before UnmapFa p h d (inr (inl z)) = absurd z
held_before UnmapFa p h d (inr (inr z)) = inl (inr (inr z))
held_before MapAux p h d (inl z) = inl (inl z)
held_before MapAux p h d (inr (inl z)) = inl (inr (inl z))
held_before MapAux p h d (inr (inr (inl (inl z)))) = inl (inr (inr (inl z)))
held_before MapAux p h d (inr (inr (inl (inr z)))) = inr (tt, z)
held_before MapAux p h d (inr (inr (inr z))) = inl (inr (inr (inr z)))
held_before UnmapAux p h d (inl z) = inl (inl z)
held_before UnmapAux p h d (inr (inl z)) = inl (inr (inl z))
held_before UnmapAux p h d (inr (inr (inl z))) = absurd z
held_before UnmapAux p h d (inr (inr (inr z))) = inl (inr (inr (inr z)))
held_before MapIcm p h d (inl (x, inl z)) = inl (inl (x, z))
held_before MapIcm p h d (inl (x, inr z)) = inr (tt, (x, z))
held_before MapIcm p h d (inr z) = inl (inr z)
held_before UnmapIcm p h d (inl (x, z)) = inl (inl (x, z.0))
held_before UnmapIcm p h d (inr z) = inl (inr z)
held_before CloseHca p h d (inl z) = inl (inl z)
held_before CloseHca p h d (inr (inl z)) = inl (inr (inl z))
held_before CloseHca p h d (inr (inr (inl z))) = inl (inr (inr (inl z)))
held_before CloseHca p h d (inr (inr (inr z))) = absurd z
held_before Other p h d z = inl z
