use borrow.Author.Rules.{rules}
use mathlib.Core.Path.{ap, sym, ◌∙◌}
use Rattle.fw_plan.specs.Calls.{outcome_at}
use Rattle.results.proofs.outcome.Goals as goal

pub returns-in-Fresh : goal.returns-in-Fresh
returns-in-Fresh c = λ b. sym (ap (outcome_at c.args.s.failure c.args.s.closing) c.in-Fresh.is)

pub returns-in-Open : goal.returns-in-Open
returns-in-Open c = λ b. sym (ap (outcome_at c.args.s.failure c.args.s.closing) c.in-Open.is)

pub returns-in-Ended : goal.returns-in-Ended
returns-in-Ended c = λ b. c.ended.ensures ∙ sym (ap (outcome_at c.args.s.failure c.args.s.closing) c.in-Ended.is)

pub returns-in-Prepare : goal.returns-in-Prepare
returns-in-Prepare c = λ b. sym (ap (outcome_at c.args.s.failure c.args.s.closing) c.in-Prepare.is)

pub returns-in-Boot : goal.returns-in-Boot
returns-in-Boot c = λ b. sym (ap (outcome_at c.args.s.failure c.args.s.closing) c.in-Boot.is)

pub returns-in-Client : goal.returns-in-Client
returns-in-Client c = λ b. sym (ap (outcome_at c.args.s.failure c.args.s.closing) c.in-Client.is)

pub returns-in-Close : goal.returns-in-Close
returns-in-Close c = λ b. sym (ap (outcome_at c.args.s.failure c.args.s.closing) c.in-Close.is)
