use mathlib.Core.Path.{ap, sym, ◌∙◌}
use Rattle.calls_plan.specs.declared.Call.{Call}
use Rattle.bytes_plan.specs.Left.{cleared_in}
use borrow.Author.Rules.{rules}
use Rattle.calls.proofs.clear.Goals as goal

pub enum_told-1 : goal.enum_told-1
enum_told-1 c = search rules

pub put_fresh-requires : goal.put_fresh-requires
put_fresh-requires c = search rules

pub enum_told-in-Command : goal.enum_told-in-Command
enum_told-in-Command c = search rules

pub enum_told-in-Lend : goal.enum_told-in-Lend
enum_told-in-Lend c = search rules

pub enum_told-in-UndoTo : goal.enum_told-in-UndoTo
enum_told-in-UndoTo c = search rules

pub enum_told-in-Quiesce : goal.enum_told-in-Quiesce
enum_told-in-Quiesce c = search rules

pub enum_told-in-Close : goal.enum_told-in-Close
enum_told-in-Close c = search rules

pub shape_of-m : goal.shape_of-m
shape_of-m c = search rules

pub returns-in-Open : goal.returns-in-Open
returns-in-Open c =
    c.put_fresh.ensures
    ∙ ap (λ (y : Call). cleared_in y c.args.m.now) (sym c.in-Open.is)

pub returns-in-Command : goal.returns-in-Command
returns-in-Command c = ap (λ (y : Call). cleared_in y c.args.m.now) (sym c.in-Command.is)

pub returns-in-Lend : goal.returns-in-Lend
returns-in-Lend c = ap (λ (y : Call). cleared_in y c.args.m.now) (sym c.in-Lend.is)

pub returns-in-UndoTo : goal.returns-in-UndoTo
returns-in-UndoTo c = ap (λ (y : Call). cleared_in y c.args.m.now) (sym c.in-UndoTo.is)

pub returns-in-Quiesce : goal.returns-in-Quiesce
returns-in-Quiesce c = ap (λ (y : Call). cleared_in y c.args.m.now) (sym c.in-Quiesce.is)

pub returns-in-Close : goal.returns-in-Close
returns-in-Close c = ap (λ (y : Call). cleared_in y c.args.m.now) (sym c.in-Close.is)
