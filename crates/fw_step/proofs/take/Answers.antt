use mathlib.Core.Path.{ap, ◌∙◌}
use Rattle.pci.specs.declared.Question.{Question}
use Rattle.work.specs.Work.{work_step_of}
use Rattle.work.specs.declared.Work.{Work}
use Rattle.session.specs.Core.{full}
use Rattle.behind.specs.Behind.{behind_in}
use Rattle.intask.specs.InTask.{going_of}
use Rattle.fw_step.specs.Step.{wipe_at}
use Rattle.fw_step.proofs.Laws.{work_kept, steps, both, took_is}
use borrow.Author.Rules.{rules}
use Rattle.fw_step.proofs.take.Goals as goal

pub asks-question-requires : goal.asks-question-requires
asks-question-requires c = search rules

pub book-requires : goal.book-requires
book-requires c = search rules

pub step-going-requires : goal.step-going-requires
step-going-requires c = search rules

pub wipe_of-requires : goal.wipe_of-requires
wipe_of-requires c = search rules

pub shape_of-m : goal.shape_of-m
shape_of-m c = search rules

pub returns : goal.returns
returns c =
    let p = c.args in
    let xs = p.m.now in
    let x = full p.s (behind_in xs) in
    let k = p.s.task in
    let l = p.resource.now in
    let asked = c.asks-question.ensures in
    let kept = work_kept p.s c.asks-question.result p.a l xs _ asked c.book.ensures.m_after c.book.ensures.rewrites in record {
      value = took_is x p.a l c.step-going.result c.wipe_of.result (c.step-going.ensures.value ∙ ap (λ (w : Work). going_of (work_step_of w p.a l)) kept)
          (c.wipe_of.ensures ∙ ap (λ (q : Question). wipe_at p.s.stage q p.a) asked);
      m_after = steps p.s c.asks-question.result p.a l xs _ asked c.book.ensures.m_after c.book.ensures.rewrites _ c.step-going.ensures.m_after;
      rewrites = both p.s c.asks-question.result p.a l xs _ asked c.book.ensures.m_after c.book.ensures.rewrites _ c.step-going.ensures.rewrites;
    }
