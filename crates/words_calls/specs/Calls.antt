-- What crosses C linkage, as numbers: the kinds of questions and answers.
use Rattle.std.specs.Prelude.{ℕ, List, [], ◌∷◌, eqb, ltb}
use Rattle.fields.specs.Outcome.{Outcome, value, refused, pick}
use Rattle.words.specs.Words.{at, within, put_words}
use Rattle.pci.specs.declared.Question.{Question}
use Rattle.pci.specs.declared.Question.TheVariants as q
use Rattle.pci.specs.declared.Answer.{Answer}
use Rattle.pci.specs.declared.Answer.TheVariants as a
use Rattle.words_calls.specs.declared.Heard.{Heard}
use Rattle.words_calls.specs.declared.Heard.TheVariants as h

-- A QUESTION: its kind, then its values. "Kinds: config read or write (16, 32 bits), register read or write (BAR, offset), attribute call, BAR resource, stall,
-- allocate (zeroed), map, unmap, free, fence, finished."
abbrev pub question_words : Question → List ℕ
question_words q.Finished = 0 ∷ 0 ∷ 0 ∷ 0 ∷ []
question_words (q.ConfigRead16 o) = 1 ∷ o ∷ 0 ∷ 0 ∷ []
question_words (q.ConfigRead32 o) = 2 ∷ o ∷ 0 ∷ 0 ∷ []
question_words (q.ConfigWrite16 o v) = 3 ∷ o ∷ v ∷ 0 ∷ []
question_words (q.ConfigWrite32 o v) = 4 ∷ o ∷ v ∷ 0 ∷ []
question_words (q.RegRead b o) = 5 ∷ b ∷ o ∷ 0 ∷ []
question_words (q.RegWrite b o v) = 6 ∷ b ∷ o ∷ v ∷ []
question_words (q.Attributes o v) = 7 ∷ o ∷ v ∷ 0 ∷ []
question_words (q.Resource i) = 8 ∷ i ∷ 0 ∷ 0 ∷ []
question_words (q.Stall us) = 9 ∷ us ∷ 0 ∷ 0 ∷ []
question_words (q.Allocate n) = 10 ∷ n ∷ 0 ∷ 0 ∷ []
question_words (q.Map k n) = 11 ∷ k ∷ n ∷ 0 ∷ []
question_words (q.Unmap k) = 12 ∷ k ∷ 0 ∷ 0 ∷ []
question_words (q.Free k n) = 13 ∷ k ∷ n ∷ 0 ∷ []
question_words q.Fence = 14 ∷ 0 ∷ 0 ∷ 0 ∷ []

-- what a call says: the question in four words, and how many undo records are left; nothing where there is no room for it
abbrev pub turn_words : Question → ℕ → List ℕ
turn_words q n = at (question_words q) 0 ∷ at (question_words q) 1 ∷ at (question_words q) 2 ∷ at (question_words q) 3 ∷ n ∷ []

abbrev pub turn_in : List ℕ → Question → ℕ → List ℕ
turn_in w q n = pick (within w 0 5) (put_words w 0 (turn_words q n)) w

-- AN ANSWER from its kind and two values. One whose kind has no such number, or whose value is wider than its kind, is of the wrong kind: 20
abbrev pub word_heard : ℕ → Outcome Answer
word_heard v = pick (ltb v 65536) (value (a.Word v)) (refused 20 [])

abbrev pub dword_heard : ℕ → Outcome Answer
dword_heard v = pick (ltb v 4294967296) (value (a.Dword v)) (refused 20 [])

abbrev pub heard_of : (kind v w : ℕ) → Outcome Answer
heard_of k v w =
    pick (eqb k 1) (word_heard v) (
    pick (eqb k 2) (dword_heard v) (
    pick (eqb k 3) (value (a.Qword v)) (
    pick (eqb k 4) (value a.Done) (
    pick (eqb k 5) (value a.Failed) (
    pick (eqb k 6) (value (a.Handle v)) (
    pick (eqb k 7) (value (a.Mapped v w)) (
    pick (eqb k 8) (value a.List) (
    refused 20 []))))))))

abbrev pub heard_as : Heard → Outcome Answer
heard_as (h.Told x) = value x
heard_as h.Unknown = refused 20 []
