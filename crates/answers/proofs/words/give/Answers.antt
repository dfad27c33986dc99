use borrow.Author.Tests.{lt-leb, le-leb}
use Rattle.answers.proofs.words.give.Goals as goal

pub returns-then-out-words : goal.returns-then-out-words
returns-then-out-words c = let no' = lt-leb _ _ c.if-out-words.true in record { value = rw no'; out_after = rw no' }

pub returns : goal.returns
returns c = let ok = le-leb _ _ c.if-out-words.false in record { value = rw ok; out_after = rw ok c.put.ensures }
