use borrow.Author.Rules.{rules}
use Rattle.words_books.proofs.refusal_words.Goals as goal

pub returns-in-Attributes : goal.returns-in-Attributes
returns-in-Attributes c = simp c.in-Attributes.is

pub returns-in-Owner : goal.returns-in-Owner
returns-in-Owner c = simp c.in-Owner.is

pub returns-in-Reset : goal.returns-in-Reset
returns-in-Reset c = simp c.in-Reset.is

pub returns-in-Bar : goal.returns-in-Bar
returns-in-Bar c = simp c.in-Bar.is

pub returns-in-Memory : goal.returns-in-Memory
returns-in-Memory c = simp c.in-Memory.is

pub returns-in-Status : goal.returns-in-Status
returns-in-Status c = simp (
  c.in-Status.is,
  c.wide8.ensures,
)

pub returns-in-Timeout : goal.returns-in-Timeout
returns-in-Timeout c = simp c.in-Timeout.is

pub returns-in-Busy : goal.returns-in-Busy
returns-in-Busy c = simp c.in-Busy.is

pub returns-in-Bus : goal.returns-in-Bus
returns-in-Bus c = simp c.in-Bus.is

pub returns-in-NotPrimary : goal.returns-in-NotPrimary
returns-in-NotPrimary c = simp c.in-NotPrimary.is

pub returns-in-Revision : goal.returns-in-Revision
returns-in-Revision c = simp (
  c.in-Revision.is,
  c.wide16.ensures,
)

pub returns-in-MinPage : goal.returns-in-MinPage
returns-in-MinPage c = simp (
  c.in-MinPage.is,
  c.wide8-in-MinPage.ensures,
)

pub returns-in-Ports : goal.returns-in-Ports
returns-in-Ports c = simp (
  c.in-Ports.is,
  c.wide8-in-Ports.ensures,
)

pub returns-in-Uar : goal.returns-in-Uar
returns-in-Uar c = simp (
  c.in-Uar.is,
  c.wide8-in-Uar.ensures,
)

pub returns-in-UarArea : goal.returns-in-UarArea
returns-in-UarArea c = simp c.in-UarArea.is

pub returns-in-Entry : goal.returns-in-Entry
returns-in-Entry c = simp (
  c.in-Entry.is,
  c.long.ensures,
)

pub returns-in-Total : goal.returns-in-Total
returns-in-Total c = simp c.in-Total.is

pub returns-in-Address : goal.returns-in-Address
returns-in-Address c = simp c.in-Address.is

pub returns-in-Full : goal.returns-in-Full
returns-in-Full c = simp c.in-Full.is

pub returns-in-Wrong : goal.returns-in-Wrong
returns-in-Wrong c = simp c.in-Wrong.is

pub returns-in-Short : goal.returns-in-Short
returns-in-Short c = simp c.in-Short.is

pub returns-in-Opcode : goal.returns-in-Opcode
returns-in-Opcode c = simp c.in-Opcode.is

pub returns-in-Undo : goal.returns-in-Undo
returns-in-Undo c = simp c.in-Undo.is

pub returns-in-List : goal.returns-in-List
returns-in-List c = simp c.in-List.is
