use borrow.Author.Rules.{rules}
use mathlib.Core.List.{[]}
use mathlib.Core.Path.{ap, sym, ◌∙◌}
use Rattle.fields.specs.Outcome.{value}
use Rattle.words_calls.specs.Calls.{heard_as}
use Rattle.abi.specs.Kept.{answer_next}
use Rattle.abi.proofs.Calls.{by_whole}
use Rattle.abi.proofs.Kept.{known_holds, unknown_holds}
use Rattle.turn_answer.proofs.answered_whole.Goals as goal

pub returns-in-Told : goal.returns-in-Told
returns-in-Told c =
    let p = c.args in
    let u = p.top in
    let known = sym (ap heard_as c.in-Told.is) ∙ c.answer_from.ensures in
    let g = by_whole (value _) p.resource.now u p.state.now p.inbox.now p.outbox.now p.out.now known in record { out_after = c.answer.ensures.out_after ∙ g; holds = known_holds _ _ (λ x. answer_next x p.resource.now u p.inbox.now p.outbox.now p.out.now) p.state.now _ known c.answer.ensures.holds }

pub returns-in-Unknown : goal.returns-in-Unknown
returns-in-Unknown c = record {
  out_after = simp (
    ← c.answer_from.ensures,
    c.in-Unknown.in-Unknown-own.keys2,
    c.in-Unknown.is,
  );
  holds = unknown_holds _ 20 [] _ _ (sym (ap heard_as c.in-Unknown.is) ∙ c.answer_from.ensures);
}
