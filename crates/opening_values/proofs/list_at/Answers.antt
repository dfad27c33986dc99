use borrow.Author.Rules.{rules}
use Rattle.behind.proofs.slot_at.Reads as slot-at-reads
use Rattle.session.proofs.Core.send.Reads as send-reads
use Rattle.session.proofs.with_in.Reads as with-in-reads
use Rattle.opening_values.proofs.list_at.Reads as reads
use Rattle.opening_values.proofs.list_at.Lts as lts
use Rattle.opening_values.proofs.op_for.Reads as op-for-reads
use Rattle.opening_values.proofs.list_at.Goals as goal

pub returns-in-QueryFw : goal.returns-in-QueryFw
returns-in-QueryFw c = λ b e. simp c.in-QueryFw.is

pub returns-in-Make : goal.returns-in-Make
returns-in-Make c = λ b e. simp c.in-Make.is

pub returns-in-Map : goal.returns-in-Map
returns-in-Map c = λ b e. simp (
  e,
  c.slot_at-slot.ensures,
  c.in-Map.is,
  c.op_for.ensures,
  c.with_in.ensures,
  c.send.ensures,
)

pub returns-in-RunFw : goal.returns-in-RunFw
returns-in-RunFw c = λ b e. simp c.in-RunFw.is

pub returns-in-ModStat : goal.returns-in-ModStat
returns-in-ModStat c = λ b e. simp c.in-ModStat.is

pub returns-in-DevCap : goal.returns-in-DevCap
returns-in-DevCap c = λ b e. simp c.in-DevCap.is

pub returns-in-Port : goal.returns-in-Port
returns-in-Port c = λ b e. simp c.in-Port.is

pub returns-in-IcmSize : goal.returns-in-IcmSize
returns-in-IcmSize c = λ b e. simp c.in-IcmSize.is

pub returns-in-InitHca : goal.returns-in-InitHca
returns-in-InitHca c = λ b e. simp c.in-InitHca.is

pub returns-in-Func : goal.returns-in-Func
returns-in-Func c = λ b e. simp c.in-Func.is

pub returns-in-Adapter : goal.returns-in-Adapter
returns-in-Adapter c = λ b e. simp c.in-Adapter.is
