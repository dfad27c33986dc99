-- How many words each answer has.
use Prim.Native.Nat.{ℕ}
use mathlib.Core.Path.{◌≡◌, refl}
use mathlib.Core.Option.{Option, none, some}
use lib.ListN.{length}
use Rattle.fields.specs.Outcome.{Outcome, value, refused}
use Rattle.bars.specs.declared.Choice.{Choice}
use Rattle.bars.specs.declared.Next.{Next}
use Rattle.bars.specs.declared.Next.TheVariants as n
use Rattle.dma.specs.declared.Block.{Block}
use Rattle.dma.specs.declared.Cutter.{Cutter}
use Rattle.dma.specs.declared.Listed.{Listed}
use Rattle.answers.specs.Bars.{list_words, next_words, begun_words}
use Rattle.reply.specs.declared.FuncInfo.{FuncInfo}
use Rattle.answers.specs.Replies.{func_words}
use Rattle.answers.specs.Memory.{started_words, piece_words, listed_words}

pub length_list : (o : Outcome (Option (ℕ × ℕ))) → length (list_words o) ≡ 3
length_list (value (some p)) = refl
length_list (value none) = refl
length_list (refused n vs) = refl

pub length_next : (x : Next) → length (next_words x) ≡ 16
length_next (n.Ask i c) = refl
length_next (n.Picked p) = refl

pub length_begun : (o : Outcome (ℕ × Choice)) → length (begun_words o) ≡ 16
length_begun (value p) = refl
length_begun (refused k vs) = refl

pub length_started : (o : Outcome Cutter) → length (started_words o) ≡ 5
length_started (value c) = refl
length_started (refused k vs) = refl

pub length_piece : (o : Option (Block × Cutter)) → length (piece_words o) ≡ 8
length_piece (some p) = refl
length_piece none = refl

pub length_listed : (o : Outcome Listed) → length (listed_words o) ≡ 6
length_listed (value m) = refl
length_listed (refused k vs) = refl

pub length_func : (o : Outcome FuncInfo) → length (func_words o) ≡ 4
length_func (value i) = refl
length_func (refused k vs) = refl
