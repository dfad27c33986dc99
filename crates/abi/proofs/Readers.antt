-- Words that are read of a session.
use Prim.Native.Nat.{ℕ, ◌*◌, ◌≤◌}
use mathlib.Core.Path.{◌≡◌, refl}
use mathlib.Core.List.{List}
use borrow.Author.Tests.{le-ltb}
use lib.ListN.{length}
use Rattle.words.specs.Words.{put_words}
use Rattle.words_calls.specs.Calls.{question_words}
use Rattle.pci.specs.declared.Question.{Question}
use Rattle.pci.specs.declared.Question.TheVariants as q
use Rattle.session.specs.declared.Slot.{Slot}
use Rattle.session.specs.declared.Gave.{Gave}
use Rattle.session.specs.declared.Gave.TheVariants as g
use Rattle.fw_plan.specs.declared.Outcome as fw
use Rattle.fw_plan.specs.declared.Outcome.TheVariants as u
use Rattle.results.specs.Results.{gave_words, outcome_words}
use Rattle.abi.specs.Readers.{reads, given}

-- words that are given, where there is room for them
pub gives : (n : ℕ) (w ws : List ℕ) → n * 8 ≤ length w → reads 0 (put_words w 0 ws) ≡ given n w ws
gives n w ws h = rw (le-ltb (length w) (n * 8) h) refl

-- how many words there are
pub question_length : (x : Question) → length (question_words x) ≡ 4
question_length q.Finished = refl
question_length (q.ConfigRead16 o) = refl
question_length (q.ConfigRead32 o) = refl
question_length (q.ConfigWrite16 o v) = refl
question_length (q.ConfigWrite32 o v) = refl
question_length (q.RegRead b o) = refl
question_length (q.RegWrite b o v) = refl
question_length (q.Attributes o v) = refl
question_length (q.Resource i) = refl
question_length (q.Stall u) = refl
question_length (q.Allocate n) = refl
question_length (q.Map k n) = refl
question_length (q.Unmap k) = refl
question_length (q.Free k n) = refl
question_length q.Fence = refl

gave_length : (l : List Slot) (x : Gave) → length (gave_words l x) ≡ 5
gave_length l g.Nothing = refl
gave_length l (g.Command x y) = refl
gave_length l (g.Lent i) = refl
gave_length l (g.Failed y) = refl

pub outcome_length : (l : List Slot) (x : fw.Outcome) → length (outcome_words l x) ≡ 5
outcome_length l u.Fresh = refl
outcome_length l u.Running = refl
outcome_length l (u.Opened y) = gave_length l y
outcome_length l (u.Failed y k) = refl
outcome_length l (u.Closed k) = refl
