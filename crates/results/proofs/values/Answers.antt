use borrow.Author.Rules.{rules}
use Rattle.results.proofs.values.Goals as goal

pub returns-in-Attributes : goal.returns-in-Attributes
returns-in-Attributes c = simp (
  c.in-Attributes.in-Attributes-own.keys1,
  c.in-Attributes.is,
)

pub returns-in-Owner : goal.returns-in-Owner
returns-in-Owner c = simp (
  c.in-Owner.in-Owner-own.keys2,
  c.in-Owner.is,
)

pub returns-in-Reset : goal.returns-in-Reset
returns-in-Reset c = simp (
  c.in-Reset.in-Reset-own.keys3,
  c.in-Reset.is,
)

pub returns-in-Bar : goal.returns-in-Bar
returns-in-Bar c = simp (
  c.in-Bar.in-Bar-own.keys4,
  c.in-Bar.is,
)

pub returns-in-Memory : goal.returns-in-Memory
returns-in-Memory c = simp (
  c.in-Memory.in-Memory-own.keys5,
  c.in-Memory.is,
)

pub returns-in-Status : goal.returns-in-Status
returns-in-Status c = simp (
  c.in-Status.in-Status-own.keys6,
  c.in-Status.is,
  c.in-Status.known_told-1-own.given.1,
  c.wide8.ensures,
)

pub returns-in-Timeout : goal.returns-in-Timeout
returns-in-Timeout c = simp (
  c.in-Timeout.in-Timeout-own.keys7,
  c.in-Timeout.is,
  c.in-Timeout.known_told-in-Timeout-1-own.given.1,
)

pub returns-in-Busy : goal.returns-in-Busy
returns-in-Busy c = simp (
  c.in-Busy.in-Busy-own.keys8,
  c.in-Busy.is,
)

pub returns-in-Bus : goal.returns-in-Bus
returns-in-Bus c = simp (
  c.in-Bus.in-Bus-own.keys9,
  c.in-Bus.is,
  c.in-Bus.known_told-in-Bus-1-own.given.1,
)

pub returns-in-NotPrimary : goal.returns-in-NotPrimary
returns-in-NotPrimary c = simp (
  c.in-NotPrimary.in-NotPrimary-own.keys10,
  c.in-NotPrimary.is,
)

pub returns-in-Revision : goal.returns-in-Revision
returns-in-Revision c = simp (
  c.in-Revision.in-Revision-own.keys11,
  c.in-Revision.is,
  c.in-Revision.known_told-in-Revision-1-own.given.1,
  c.wide16.ensures,
)

pub returns-in-MinPage : goal.returns-in-MinPage
returns-in-MinPage c = simp (
  c.in-MinPage.in-MinPage-own.keys12,
  c.in-MinPage.is,
  c.in-MinPage.known_told-in-MinPage-1-own.given.1,
  c.wide8-in-MinPage.ensures,
)

pub returns-in-Ports : goal.returns-in-Ports
returns-in-Ports c = simp (
  c.in-Ports.in-Ports-own.keys13,
  c.in-Ports.is,
  c.in-Ports.known_told-in-Ports-1-own.given.1,
  c.wide8-in-Ports.ensures,
)

pub returns-in-Uar : goal.returns-in-Uar
returns-in-Uar c = simp (
  c.in-Uar.in-Uar-own.keys14,
  c.in-Uar.is,
  c.in-Uar.known_told-in-Uar-1-own.given.1,
  c.wide8-in-Uar.ensures,
)

pub returns-in-UarArea : goal.returns-in-UarArea
returns-in-UarArea c = simp (
  c.in-UarArea.in-UarArea-own.keys15,
  c.in-UarArea.is,
  c.in-UarArea.known_told-in-UarArea-1-own.given.1,
)

pub returns-in-Entry : goal.returns-in-Entry
returns-in-Entry c = simp (
  c.in-Entry.in-Entry-own.keys16,
  c.in-Entry.is,
  c.in-Entry.known_told-in-Entry-1-own.given.1,
  c.long.ensures,
)

pub returns-in-Total : goal.returns-in-Total
returns-in-Total c = simp (
  c.in-Total.in-Total-own.keys17,
  c.in-Total.is,
  c.in-Total.known_told-in-Total-1-own.given.1,
)

pub returns-in-Address : goal.returns-in-Address
returns-in-Address c = simp (
  c.in-Address.in-Address-own.keys18,
  c.in-Address.is,
)

pub returns-in-Full : goal.returns-in-Full
returns-in-Full c = simp (
  c.in-Full.in-Full-own.keys19,
  c.in-Full.is,
)

pub returns-in-Wrong : goal.returns-in-Wrong
returns-in-Wrong c = simp (
  c.in-Wrong.in-Wrong-own.keys20,
  c.in-Wrong.is,
)

pub returns-in-Short : goal.returns-in-Short
returns-in-Short c = simp (
  c.in-Short.in-Short-own.keys21,
  c.in-Short.is,
)

pub returns-in-Opcode : goal.returns-in-Opcode
returns-in-Opcode c = simp (
  c.in-Opcode.in-Opcode-own.keys22,
  c.in-Opcode.is,
)

pub returns-in-Undo : goal.returns-in-Undo
returns-in-Undo c = simp (
  c.in-Undo.in-Undo-own.keys23,
  c.in-Undo.is,
)

pub returns-in-List : goal.returns-in-List
returns-in-List c = simp (
  c.in-List.in-List-own.keys24,
  c.in-List.is,
)
