use mathlib.Core.Path.{ap, sym, ◌∙◌}
use borrow.Author.Rules.{rules}
use Rattle.session.specs.declared.Core.{Core}
use Rattle.session.specs.Core.{full, plan_in, leads}
use Rattle.behind.specs.Behind.{behind_in}
use Rattle.closing_plan.specs.Plan.{close_plan, was_reset}
use Rattle.session.specs.declared.Close.{Close}
use Rattle.command.specs.declared.CmdEnd.{CmdEnd}
use Rattle.reset.specs.declared.ResetEnd.{ResetEnd}
use Rattle.session.specs.declared.Plan.{Plan}
use Rattle.work.specs.declared.End.TheVariants as e
use Rattle.session.specs.declared.Close.TheVariants as k
use Rattle.session.specs.declared.Fill.TheVariants as w
use Rattle.closing.proofs.closed.Goals as goal

pub returns-in-Undo : goal.returns-in-Undo
unfolding close_plan
returns-in-Undo c =
    let p = c.args in
    let s = full p.s (behind_in p.m.now) in
    c.undone.ensures
    ∙ ap (λ (x : CmdEnd). close_plan s (k.Undo c.in-Undo.more) (e.Cmd x) p.top) c.cmd_in.ensures
    ∙ ap (λ (y : Close). close_plan s y p.end p.top) (sym c.in-Undo.is)

pub returns-in-CloseHca : goal.returns-in-CloseHca
unfolding close_plan
returns-in-CloseHca c =
    let p = c.args in
    let s = full p.s (behind_in p.m.now) in
    c.hca_closed.ensures
    ∙ ap (λ (x : CmdEnd). close_plan s k.CloseHca (e.Cmd x) p.top) c.cmd_in-in-CloseHca.ensures
    ∙ ap (λ (y : Close). close_plan s y p.end p.top) (sym c.in-CloseHca.is)

pub returns-in-Unmap : goal.returns-in-Unmap
unfolding close_plan
returns-in-Unmap c =
    let p = c.args in
    let s = full p.s (behind_in p.m.now) in
    c.unmapped.ensures
    ∙ ap (λ (x : CmdEnd). close_plan s (k.Unmap c.in-Unmap.i) (e.Cmd x) p.top) c.cmd_in-in-Unmap.ensures
    ∙ ap (λ (y : Close). close_plan s y p.end p.top) (sym c.in-Unmap.is)

pub returns-in-UnmapAux : goal.returns-in-UnmapAux
unfolding close_plan
returns-in-UnmapAux c =
    let p = c.args in
    let s = full p.s (behind_in p.m.now) in
    c.aux_unmapped.ensures
    ∙ ap (λ (x : CmdEnd). close_plan s k.UnmapAux (e.Cmd x) p.top) c.cmd_in-in-UnmapAux.ensures
    ∙ ap (λ (y : Close). close_plan s y p.end p.top) (sym c.in-UnmapAux.is)

pub returns-in-UnmapFa : goal.returns-in-UnmapFa
unfolding close_plan
returns-in-UnmapFa c =
    let p = c.args in
    let s = full p.s (behind_in p.m.now) in
    c.fa_unmapped.ensures
    ∙ ap (λ (x : CmdEnd). close_plan s k.UnmapFa (e.Cmd x) p.top) c.cmd_in-in-UnmapFa.ensures
    ∙ ap (λ (y : Close). close_plan s y p.end p.top) (sym c.in-UnmapFa.is)

pub returns-in-Quiesce : goal.returns-in-Quiesce
unfolding close_plan
returns-in-Quiesce c =
    let p = c.args in
    let b = behind_in p.m.now in
    let s = full p.s b in
    ap (λ (y : Plan). plan_in y b) (c.new.ensures ∙ ap (λ (y : Core). leads y w.Nothing p.top.count) c.rests.ensures)
    ∙ ap (λ (y : Close). close_plan s y p.end p.top) (sym c.in-Quiesce.is)

pub returns-in-Reset : goal.returns-in-Reset
unfolding close_plan
returns-in-Reset c =
    let p = c.args in
    let s = full p.s (behind_in p.m.now) in
    c.was_reset.ensures
    ∙ ap (λ (x : ResetEnd). was_reset s x p.top.count) c.reset_in.ensures
    ∙ ap (λ (y : Close). close_plan s y p.end p.top) (sym c.in-Reset.is)

pub returns-in-Free : goal.returns-in-Free
unfolding close_plan
returns-in-Free c =
    let p = c.args in
    let s = full p.s (behind_in p.m.now) in
    c.freed.ensures ∙ ap (λ (y : Close). close_plan s y p.end p.top) (sym c.in-Free.is)

pub returns-in-Release : goal.returns-in-Release
unfolding close_plan
returns-in-Release c =
    let p = c.args in
    let b = behind_in p.m.now in
    let s = full p.s b in
    c.restore.ensures b ∙ ap (λ (y : Close). close_plan s y p.end p.top) (sym c.in-Release.is)

pub returns-in-Restore : goal.returns-in-Restore
unfolding close_plan
returns-in-Restore c =
    let p = c.args in
    let b = behind_in p.m.now in
    let s = full p.s b in
    ap (λ (y : Plan). plan_in y b) (c.new-in-Restore.ensures ∙ ap (λ (y : Core). leads y w.Nothing p.top.count) c.ends.ensures)
    ∙ ap (λ (y : Close). close_plan s y p.end p.top) (sym c.in-Restore.is)
