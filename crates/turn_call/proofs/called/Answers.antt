use mathlib.Core.List.{[]}
use borrow.Author.Rules.{rules}
use Rattle.abi.proofs.Calls.{by_wanted}
use Rattle.abi.proofs.Kept.{known_holds, unknown_holds}
use Rattle.abi.specs.Kept.{call_next}
use Rattle.fields.specs.Outcome.{value}
use mathlib.Core.Path.{ap, sym, ◌∙◌}
use Rattle.abi.specs.Calls.{made, call_as}
use Rattle.turn_call.proofs.called.Goals as goal

pub returns-in-Known : goal.returns-in-Known
unfolding made
returns-in-Known c =
    let p = c.args in
    let u = p.top in
    let known = sym (ap call_as c.in-Known.is) ∙ c.call_from.ensures in
    let g = by_wanted (value _) p.input.now u p.state.now p.inbox.now p.outbox.now p.out.now known in (
      c.make.ensures.out_after ∙ g,
      known_holds _ _ (λ x. call_next x p.input.now u p.inbox.now p.outbox.now p.out.now) p.state.now _ known c.make.ensures.holds,
    )

pub returns-in-Unknown : goal.returns-in-Unknown
unfolding made
returns-in-Unknown c = (
  simp (
    ← c.call_from.ensures,
    c.in-Unknown.in-Unknown-own.keys2,
    c.in-Unknown.is,
  ),
  unknown_holds _ 20 [] _ _ (sym (ap call_as c.in-Unknown.is) ∙ c.call_from.ensures),
)
