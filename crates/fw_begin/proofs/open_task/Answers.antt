use mathlib.Core.Path.{refl, ap, sym, subst, ◌∙◌}
use mathlib.Core.List.{List}
use Prim.Native.Nat.{ℕ}
use Rattle.work.specs.Work.{working, work_asks}
use Rattle.intask.specs.InTask.{work_in}
use Rattle.session.specs.Core.{Behind}
use Rattle.words_session.specs.Image.{put_head}
use Rattle.words_laws.proofs.Typed.{core_typed}
use Rattle.abi.proofs.Left.{begun_reads, headed}
use borrow.Author.Rules.{rules}
use Rattle.fw_begin.proofs.open_task.Goals as goal

pub begin-requires : goal.begin-requires
begin-requires c = search rules

pub asks-question-requires : goal.asks-question-requires
asks-question-requires c = search rules

pub put_head-requires : goal.put_head-requires
put_head-requires c = search rules

pub shape_of-m : goal.shape_of-m
shape_of-m c = search rules

pub returns : goal.returns
returns c =
    let p = c.args in
    let k = p.c.task in
    let begun = c.begin.ensures in
    let exit = c.put_head.ensures ∙ ap (put_head p.c) begun in record {
      value = c.asks-question.ensures ∙ ap (λ (xs : List ℕ). work_asks (work_in k xs)) begun
          ∙ ap (λ (y : Behind). work_asks (working k y.reset y.find)) (begun_reads p.c.stage k p.m.now);
      m_after = exit;
      writes = headed p.c p.m.now _ (core_typed p.c _ c.well_formed.0) exit;
    }
