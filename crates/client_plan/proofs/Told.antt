-- WHAT A CLIENT IS TOLD of his command is what document 01 has for its end: "6 status not 0 (status, µs)", "7 Timeout (µs)", "8 Busy (0 µs)", "9 bus fails in a command (µs)";
-- "Every command's answer gives the microseconds waited".
use Prim.Native.Nat.{ℕ}
use mathlib.Core.Bool.{Bool, true}
use mathlib.Core.List.{List, [], ◌∷◌}
use mathlib.Core.Path.{◌≡◌, refl, ap}
use Rattle.fields.specs.Outcome.{Outcome, value, refused, pick}
use Rattle.command.specs.Script.{result_of, micros_of}
use Rattle.command.specs.declared.CmdResult.{CmdResult}
use Rattle.command.specs.declared.CmdResult.TheVariants as r
use Rattle.session.specs.Failures.{gave_of}
use Rattle.session.specs.declared.Books.{Books}
use Rattle.session.specs.declared.Form.{Form}
use Rattle.client_plan.specs.Client.{gives_immediate, gave_by}

-- a good result with the microseconds beside its immediate; a refusal has them among its values
abbrev pub waiting : ℕ → Outcome ℕ → Outcome (List ℕ)
waiting us (value y) = value (y ∷ us ∷ [])
waiting us (refused n vs) = refused n vs

pub told : (b : Books) (k : Form) (x : CmdResult) → gives_immediate k ≡ true → gave_of b (gave_by k x) ≡ waiting (micros_of x) (result_of x)
told b k (r.Done y us) e = ap (λ (t : Bool). value (pick t y 0 ∷ us ∷ [])) e
told b k (r.Status s us) e = refl
told b k (r.Timeout us) e = refl
told b k r.Busy e = refl
told b k (r.Bus us) e = refl
