use mathlib.Core.Path.{refl, ap, sym, subst, ◌∙◌}
use lib.Dec.{eqb}
use lib.ListN.{length}
use Rattle.dma.specs.PageList.{page_list, listed_of}
use Rattle.session.specs.Core.{full}
use Rattle.fw_plan.proofs.Steps.{listed_good, listed_short}
use borrow.Author.Rules.{rules}
use Rattle.fw_begin.proofs.fill_list.Goals as goal

pub fill-requires : goal.fill-requires
fill-requires c = search rules

pub enum_known-y : goal.enum_known-y
enum_known-y c = search rules

pub lists-requires : goal.lists-requires
lists-requires c = search rules

pub enum_told-1 : goal.enum_told-1
enum_told-1 c = search rules

pub shape_of-inbox-in-Ok : goal.shape_of-inbox-in-Ok
shape_of-inbox-in-Ok c = search rules

pub returns-in-Ok : goal.returns-in-Ok
returns-in-Ok c =
    let p = c.args in record { with_slots = λ b e. c.lists.ensures b e ∙ listed_good (eqb (length p.inbox.now) 4096) (listed_of 63 256 p.c) _ (full p.s b) (ap page_list (sym c.in-Ok.is) ∙ c.fill.ensures.result_value); inbox_after = c.fill.ensures.inbox_after }

pub shape_of-inbox-in-Err : goal.shape_of-inbox-in-Err
shape_of-inbox-in-Err c = search rules

pub returns-in-Err : goal.returns-in-Err
returns-in-Err c =
    let p = c.args in record { with_slots = λ b e. listed_short (eqb (length p.inbox.now) 4096) (listed_of 63 256 p.c) (full p.s b) (ap page_list (sym c.in-Err.is) ∙ c.fill.ensures.result_value); inbox_after = c.fill.ensures.inbox_after }
