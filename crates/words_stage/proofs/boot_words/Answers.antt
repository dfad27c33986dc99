use borrow.Author.Rules.{rules}
use Rattle.words_stage.proofs.boot_words.Goals as goal

pub returns-in-QueryFw : goal.returns-in-QueryFw
returns-in-QueryFw c = simp c.in-QueryFw.is

pub returns-in-Make : goal.returns-in-Make
returns-in-Make c = simp (
  c.in-Make.is,
  c.area_words-w.ensures,
)

pub returns-in-Map : goal.returns-in-Map
returns-in-Map c = simp (
  c.in-Map.is,
  c.area_words-xw.ensures,
  c.cutter_words-yw.ensures,
)

pub returns-in-RunFw : goal.returns-in-RunFw
returns-in-RunFw c = simp c.in-RunFw.is

pub returns-in-ModStat : goal.returns-in-ModStat
returns-in-ModStat c = simp c.in-ModStat.is

pub returns-in-DevCap : goal.returns-in-DevCap
returns-in-DevCap c = simp c.in-DevCap.is

pub returns-in-Port : goal.returns-in-Port
returns-in-Port c = simp (
  c.in-Port.is,
  c.wide8.ensures,
)

pub returns-in-IcmSize : goal.returns-in-IcmSize
returns-in-IcmSize c = simp c.in-IcmSize.is

pub returns-in-InitHca : goal.returns-in-InitHca
returns-in-InitHca c = simp c.in-InitHca.is

pub returns-in-Func : goal.returns-in-Func
returns-in-Func c = simp c.in-Func.is

pub returns-in-Adapter : goal.returns-in-Adapter
returns-in-Adapter c = simp c.in-Adapter.is
