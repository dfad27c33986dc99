-- What the statement refuses, whatever the session says of itself: wrong sessions, each at the clause
-- that refuses it.
use Prim.Native.Nat.{ℕ, ◌<◌}
use native.Mathlib.Omega.{arith}
use mathlib.Core.Bool.{true}
use mathlib.Core.List.{List, [], ◌∷◌}
use mathlib.Core.Logic.{◌⊎◌, inl, inr, ⊎_elim}
use mathlib.Core.Option.{Option, some, none, none-ne-some, some-injective}
use mathlib.Core.Path.{◌≡◌, refl, sym, ◌∙◌, ap, subst}
use Rattle.fields.specs.Outcome.{Outcome, value, refused}
use Rattle.layout.specs.Counts.{profile_of}
use Rattle.layout.specs.declared.Layout.{Layout}
use Rattle.session.specs.declared.Books.{Books}
use Rattle.session.specs.declared.Gave.{Gave}
use Rattle.session.specs.declared.Info.{Info}
use Rattle.fw_plan.specs.Calls.{asks_of, outcome_of}
use Rattle.fw_plan.specs.declared.Outcome.TheVariants as u
use Rattle.calls_plan.specs.declared.Call.{Call}
use Rattle.calls_plan.specs.declared.Call.TheVariants as kn
use Rattle.pci.specs.Script.{write}
use Rattle.pci.specs.declared.Refusal.{Refusal}
use Rattle.session.specs.declared.Closing.TheVariants as cl
use Rattle.card.specs.Card.{Hold, out, back, written, Host, Ours, World, Carries}
use Rattle.card.specs.Owns.{hold_of, InOrder}
use Rattle.demand.specs.Events.{asked, Stand}
use Rattle.demand.specs.Demand.{range_of, Exact, has_returned, Closed, Opened, Due, Good}

-- "opened" and silent: the map is due all the same
pub silent_opening : (base : ℕ → Option Hold) (x : Stand) (l : List Call) (y : Gave) → x.calls ≡ kn.Open ∷ l → has_returned (asks_of x.session) ≡ true → outcome_of x.session ≡ u.Opened y → Good base x
    → Exact x.session.info x.session.books x.world
silent_opening base x l y c r o g =
    subst (Opened base x) o (subst (λ (t : _). Due base (kn.Open ∷ l) t x) r (subst (λ (z : List Call). Due base z (has_returned (asks_of x.session)) x) c g.due))

-- a close that has returned and left the session open
pub close_left_open : (base : ℕ → Option Hold) (x : Stand) (l : List Call) (y : Gave) → x.calls ≡ kn.Close ∷ l → has_returned (asks_of x.session) ≡ true → outcome_of x.session ≡ u.Opened y → Good base x → ⊥
close_left_open base x l y c r o g =
    (subst (Closed base x) o (subst (λ (t : _). Due base (kn.Close ∷ l) t x) r (subst (λ (z : List Call). Due base z (has_returned (asks_of x.session)) x) c g.due))).never

-- a range on pages that were given back
pub range_given_back : (n : Info) (b : Books) (w : World) (k : ℕ) → k < 14 → w.host.hand (range_of b k).handle ≡ none → Exact n b w → ⊥
range_given_back n b w k l e x = none-ne-some (hold_of (range_of b k)) (sym e ∙ x.handed k l)

-- a layout that was refused
pub refused_layout_lem : (n : Info) (b : Books) (w : World) (i : ℕ) (vs : List ℕ) → profile_of n.cap ≡ refused i vs → Exact n b w → ⊥
refused_layout_lem n b w i vs e x = subst IsRefused (sym e ∙ x.laid.0.1) tt
  where
    IsRefused : Outcome Layout → Type 0
    IsRefused (value y) = ⊥
    IsRefused (refused j ws) = Unit {0}

-- 16 pages out and one back
pub one_of_sixteen : (base : ℕ → Option Hold) (x : Stand) → x.world.host.log ≡ back 7 1 ∷ out 7 16 ∷ [] → Good base x → ⊥
one_of_sixteen base x e g =
    let o : InOrder (back 7 1 ∷ out 7 16 ∷ []) = subst InOrder e g.order in
    let z : ◌≡◌ {A = ℕ} 16 1 = some-injective 16 1 o.0 in
    let y : ⊥ = omega (arith, z) in y

-- a failed opening that is fresh again
pub fresh_again : (base : ℕ → Option Hold) (x : Stand) (l : List Call) → x.calls ≡ kn.Open ∷ l → has_returned (asks_of x.session) ≡ true → outcome_of x.session ≡ u.Fresh → Good base x → ⊥
fresh_again base x l c r o g =
    (subst (Opened base x) o (subst (λ (t : _). Due base (kn.Open ∷ l) t x) r (subst (λ (z : List Call). Due base z (has_returned (asks_of x.session)) x) c g.due))).never

-- a failing opening that gave back pages which it had used, under whatever name of a stage, and then says kept
pub kept_after_giving : (base : ℕ → Option Hold) (x : Stand) (l : List Call) (y : Refusal) (k : Host) → x.calls ≡ kn.Open ∷ l → has_returned (asks_of x.session) ≡ true
    → outcome_of x.session ≡ u.Failed y cl.Kept → x.began ≡ some k → (x.world.host ≡ k → ⊥) → Good base x → ⊥
kept_after_giving base x l y k c r o b n g =
    n ((subst (Opened base x) o (subst (λ (t : _). Due base (kn.Open ∷ l) t x) r (subst (λ (z : List Call). Due base z (has_returned (asks_of x.session)) x) c g.due))).none k b)

-- a command that carries a page of no buffer of the session's
pub foreign_page : (base : ℕ → Option Hold) (x : Stand) (v d : ℕ) → asked (asks_of x.session) x.inbox ≡ some (write 0 0x80698 v) → Carries (written x.world.card v) d → (Ours x.world.host d → ⊥) → Good base x → ⊥
foreign_page base x v d a c n g = n (((g.question (write 0 0x80698 v) a).1 refl refl).carried d c)

-- pages lent to the card that are not the session's own
pub lent_foreign : (base : ℕ → Option Hold) (x : Stand) (d : ℕ) → x.world.card.held.lent d → (x.world.host.log ≡ [] → ⊥) → (Ours x.world.host d → ⊥) → Good base x → ⊥
lent_foreign base x d h s n g = ⊎_elim (λ e. s e) (λ f. n (f d (inl (inr (inr (inr h)))))) g.inside
