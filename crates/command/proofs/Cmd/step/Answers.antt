use mathlib.Core.Path.{ap, sym, ◌∙◌}
use Rattle.command.specs.Machine.{cmd_step_of, phase_step}
use Rattle.command.proofs.Cmd.step.Goals as goal

pub returns-in-First : goal.returns-in-First
unfolding cmd_step_of
returns-in-First c = c.first.ensures ∙ sym (ap (phase_step c.args.self c.args.a) c.in-First.is)

pub returns-in-Writing : goal.returns-in-Writing
unfolding cmd_step_of
returns-in-Writing c = c.written.ensures ∙ sym (ap (phase_step c.args.self c.args.a) c.in-Writing.is)

pub returns-in-Fence : goal.returns-in-Fence
unfolding cmd_step_of
returns-in-Fence c = c.told.ensures ∙ sym (ap (phase_step c.args.self c.args.a) c.in-Fence.is)

pub returns-in-Go : goal.returns-in-Go
unfolding cmd_step_of
returns-in-Go c = c.went.ensures ∙ sym (ap (phase_step c.args.self c.args.a) c.in-Go.is)

pub returns-in-Poll : goal.returns-in-Poll
unfolding cmd_step_of
returns-in-Poll c = c.polled.ensures ∙ sym (ap (phase_step c.args.self c.args.a) c.in-Poll.is)

pub returns-in-Wait : goal.returns-in-Wait
unfolding cmd_step_of
returns-in-Wait c = c.waited.ensures ∙ sym (ap (phase_step c.args.self c.args.a) c.in-Wait.is)

pub returns-in-Fenced : goal.returns-in-Fenced
unfolding cmd_step_of
returns-in-Fenced c = c.told-in-Fenced.ensures ∙ sym (ap (phase_step c.args.self c.args.a) c.in-Fenced.is)

pub returns-in-Status : goal.returns-in-Status
unfolding cmd_step_of
returns-in-Status c = c.judged.ensures ∙ sym (ap (phase_step c.args.self c.args.a) c.in-Status.is)

pub returns-in-High : goal.returns-in-High
unfolding cmd_step_of
returns-in-High c = c.high.ensures ∙ sym (ap (phase_step c.args.self c.args.a) c.in-High.is)

pub returns-in-Low : goal.returns-in-Low
unfolding cmd_step_of
returns-in-Low c = c.low.ensures ∙ sym (ap (phase_step c.args.self c.args.a) c.in-Low.is)

pub returns-in-Catas : goal.returns-in-Catas
unfolding cmd_step_of
returns-in-Catas c = c.looked.ensures ∙ sym (ap (phase_step c.args.self c.args.a) c.in-Catas.is)
