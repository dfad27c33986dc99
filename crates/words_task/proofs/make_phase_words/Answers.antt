use Rattle.words_task.proofs.make_phase_words.Goals as goal

pub returns-in-Allocate : goal.returns-in-Allocate
returns-in-Allocate c = simp c.in-Allocate.is

pub returns-in-Map : goal.returns-in-Map
returns-in-Map c = simp c.in-Map.is

pub returns-in-Unmap : goal.returns-in-Unmap
returns-in-Unmap c = simp (
  c.in-Unmap.is,
  c.fault_words-yw.ensures,
)

pub returns-in-Free : goal.returns-in-Free
returns-in-Free c = simp (
  c.in-Free.is,
  c.fault_words-yw-in-Free.ensures,
)
