-- What it is for a machine to follow a script, stated once for all machines. A machine is in a state s; it shows a question, takes an answer (and bytes beside
-- it), and either goes on in another state or ends with a result.
use Rattle.std.specs.Prelude.{List, ◌≡◌, ℕ}
use Rattle.std.proofs.Math.Option.{Option, some, none}
use Rattle.pci.specs.Script.{Script, ret, ask, shown, reply_of}
use Rattle.pci.specs.declared.Question.{Question}
use Rattle.pci.specs.declared.Answer.{Answer}

-- where a step leads
pub data Next (S R : Type 0) : Type 0 where
  more : S → Next S R
  ended : R → Next S R

-- what holds at a reply of the right kind, or at an answer of a wrong one
abbrev pub Right : {A : Type 0} → Option A → (A → Type 0) → Type 0 → Type 0
Right none f g = g
Right (some r) f g = f r

module _ {S R : Type 0} (asks : S → Question) (step : S → Answer → List ℕ → Next S R) (denote : S → Script R) where
  -- the script that is left after a step
  abbrev pub rest : Next S R → Script R
  rest (more s) = denote s
  rest (ended r) = ret r

  -- the state shows the script's question; after a reply of the right kind the script's continuation is left; any other answer leaves the state as it is
  abbrev pub Follows : S → Script R → Type 0
  Follows s (ret r) = ⊥
  Follows s (ask q k) =
      (asks s ≡ shown q) × ((a : Answer) (bytes : List ℕ) → Right (reply_of q a bytes) (λ r. rest (step s a bytes) ≡ k r) (step s a bytes ≡ more s))
