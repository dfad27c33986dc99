-- One machine inside another: where the outer machine only hands the answers on, wraps the inner state and turns its end into an end of its own, it follows the
-- inner script, whose result is turned likewise.
use Prim.Native.Nat.{ℕ}
use mathlib.Core.List.{List}
use mathlib.Core.Option.{Option, some, none}
use mathlib.Core.Path.{◌≡◌, refl, ap, ◌∙◌}
use Rattle.pci.specs.Script.{Script, ret, ask, ◌>>=◌, reply_of}
use Rattle.pci.specs.Machine.{Next, more, ended, Right, rest, Follows}
use Rattle.pci.specs.declared.Question.{Question}
use Rattle.pci.specs.declared.Answer.{Answer}

pub right_map : {A : Type 0} (x : Option A) (f g : A → Type 0) (y z : Type 0) → ((a : A) → f a → g a) → (y → z) → Right x f y → Right x g z
right_map none f g y z h k p = k p
right_map (some a) f g y z h k p = h a p

-- a script's result, turned
abbrev pub turned : {A B : Type 0} → (A → B) → Script A → Script B
turned f t = t >>= (λ a. ret (f a))

module _ {S R T Q : Type 0} (asks : S → Question) (step : S → Answer → List ℕ → Next S R) (denote : S → Script R) (outer : T → Question) (steps : T → Answer → List ℕ → Next T Q) (means : T → Script Q) (wrap : S → T) (end : R → Q) where
  abbrev pub wrapped : Next S R → Next T Q
  wrapped (more s) = more (wrap s)
  wrapped (ended r) = ended (end r)

  module _ (lands : (s : S) → means (wrap s) ≡ turned end (denote s)) where
    rest-wrapped : (n : Next S R) → rest outer steps means (wrapped n) ≡ turned end (rest asks step denote n)
    rest-wrapped (more s) = lands s
    rest-wrapped (ended r) = refl

    pub within : (s : S) → outer (wrap s) ≡ asks s → ((a : Answer) (bytes : List ℕ) → steps (wrap s) a bytes ≡ wrapped (step s a bytes))
        → (t : Script R) → Follows asks step denote s t → Follows outer steps means (wrap s) (turned end t)
    within s asked stepped (ret r) h = absurd h
    within s asked stepped (ask q k) h = (
      asked ∙ h.0,
      λ a bytes. right_map (reply_of q a bytes) _ _ _ _
          (λ r e. ap (rest outer steps means) (stepped a bytes) ∙ (rest-wrapped (step s a bytes) ∙ ap (turned end) e))
          (λ e. stepped a bytes ∙ ap wrapped e)
          (h.1 a bytes),
    )
