use mathlib.Core.Bool.{Bool, not}
use mathlib.Core.Path.{ap, sym, ◌∙◌}
use borrow.Author.Tests.{eq-eqb, ne_eqb}
use Rattle.fields.specs.Outcome.{pick}
use Rattle.results.proofs.spot.Goals as goal

pub returns-then-x-eq0 : goal.returns-then-x-eq0
returns-then-x-eq0 c = simp (eq-eqb _ _ c.if-x-eq0.true)

pub returns-then-x : goal.returns-then-x
returns-then-x c = let x = c.args.x in
    sym (ap (λ (b : Bool). pick (not b) (pick x.mapped x.dev 1) 0) (ne_eqb x.runs 0 c.if-x-eq0.false) ∙ ap (λ (b : Bool). pick b x.dev 1) c.if-x.true)

pub returns : goal.returns
returns c = let x = c.args.x in
    sym (ap (λ (b : Bool). pick (not b) (pick x.mapped x.dev 1) 0) (ne_eqb x.runs 0 c.if-x-eq0.false) ∙ ap (λ (b : Bool). pick b x.dev 1) c.if-x.false)
