use Rattle.words_task.proofs.phase_words.Goals as goal

pub returns-in-First : goal.returns-in-First
returns-in-First c = simp c.in-First.is

pub returns-in-Writing : goal.returns-in-Writing
returns-in-Writing c = simp (
  c.in-Writing.is,
  c.wide8.ensures,
)

pub returns-in-Fence : goal.returns-in-Fence
returns-in-Fence c = simp c.in-Fence.is

pub returns-in-Go : goal.returns-in-Go
returns-in-Go c = simp c.in-Go.is

pub returns-in-Poll : goal.returns-in-Poll
returns-in-Poll c = simp c.in-Poll.is

pub returns-in-Wait : goal.returns-in-Wait
returns-in-Wait c = simp c.in-Wait.is

pub returns-in-Fenced : goal.returns-in-Fenced
returns-in-Fenced c = simp c.in-Fenced.is

pub returns-in-Status : goal.returns-in-Status
returns-in-Status c = simp c.in-Status.is

pub returns-in-High : goal.returns-in-High
returns-in-High c = simp c.in-High.is

pub returns-in-Low : goal.returns-in-Low
returns-in-Low c = simp (
  c.in-Low.is,
  c.wide32.ensures,
)

pub returns-in-Catas : goal.returns-in-Catas
returns-in-Catas c = simp c.in-Catas.is
