-- What the calls on BARs give as words, and the state of a choice in the words of an answer.
use Rattle.std.specs.Prelude as std
use Rattle.std.specs.Prelude.{ℕ, ◌+◌, ◌*◌, ◌%◌, Bool, true, false, not, List, [], ◌∷◌, replicate, eqb}
use Rattle.std.proofs.Math.Option.{Option, none, some}
use Rattle.fields.specs.Outcome.{Outcome, value, refused, value_or, number_of, pick}
use Rattle.fields.specs.Fields.{field_at}
use Rattle.fields.specs.declared.Order.TheVariants.{Big}
use Rattle.bars.specs.declared.BarRange.{BarRange}
use Rattle.bars.specs.declared.How.{How}
use Rattle.bars.specs.declared.How.TheVariants as h
use Rattle.bars.specs.declared.Pick.{Pick}
use Rattle.bars.specs.declared.Candidate.{Candidate}
use Rattle.bars.specs.declared.Asking.{Asking}
use Rattle.bars.specs.declared.Asking.TheVariants as q
use Rattle.bars.specs.declared.Choice.{Choice}
use Rattle.bars.specs.declared.Next.{Next}
use Rattle.bars.specs.declared.Next.TheVariants as n

-- a refusal's number, 0 where there is none; then the two values
abbrev pub pair_words : Outcome (ℕ × ℕ) → List ℕ
pair_words o = number_of o ∷ (value_or (0, 0) o).0 ∷ (value_or (0, 0) o).1 ∷ []

-- 1 for a range, with its base and its length; 0 for no answer; or a refusal's number
abbrev pub list_words : Outcome (Option (ℕ × ℕ)) → List ℕ
list_words (value (some (base, length))) = 1 ∷ base ∷ length ∷ []
list_words (value none) = 0 ∷ 0 ∷ 0 ∷ []
list_words (refused n vs) = n ∷ 0 ∷ 0 ∷ []

abbrev pub range_from : (known : Bool) (base length : ℕ) → std.Option BarRange
range_from true base length = std.Some (record { base = base; length = length })
range_from false base length = std.None

-- the parts of a state
abbrev pub known_in : std.Option BarRange → ℕ
known_in (std.Some r) = 1
known_in std.None = 0

abbrev pub base_in : std.Option BarRange → ℕ
base_in (std.Some r) = r.base
base_in std.None = 0

abbrev pub length_in : std.Option BarRange → ℕ
length_in (std.Some r) = r.length
length_in std.None = 0

abbrev pub tag_of : Asking → ℕ
tag_of q.First = 0
tag_of q.Second = 1
tag_of (q.Other i) = 2

abbrev pub index_of : Asking → ℕ
index_of q.First = 0
index_of q.Second = 0
index_of (q.Other i) = i

abbrev pub size_known : std.Option ℕ → ℕ
size_known (std.Some n) = 1
size_known std.None = 0

abbrev pub size_in : std.Option ℕ → ℕ
size_in (std.Some n) = n
size_in std.None = 0

-- how an index was chosen, in the order of the declaration
abbrev pub how_number : How → ℕ
how_number h.BaseMatches = 0
how_number h.Scan = 1
how_number h.OnlyAnswer = 2
how_number h.NoMatch = 3
how_number h.NoAnswer = 4

-- an index to ask about: 0, the index, three zeros; then the state from word 5 on: the base, each candidate's index and answer, and the question
abbrev pub ask_words : ℕ → Choice → List ℕ
ask_words i c =
    0 ∷ i ∷ 0 ∷ 0 ∷ 0
    ∷ c.base
    ∷ c.first.index ∷ known_in c.first.answer ∷ base_in c.first.answer ∷ length_in c.first.answer
    ∷ c.second.index ∷ known_in c.second.answer ∷ base_in c.second.answer ∷ length_in c.second.answer
    ∷ tag_of c.asking ∷ index_of c.asking
    ∷ []

-- a pick: 1, the index, whether its length is known, the length, and how it was chosen
abbrev pub pick_words : Pick → List ℕ
pick_words p = 1 ∷ p.index ∷ size_known p.size ∷ size_in p.size ∷ how_number p.how ∷ replicate 11 0

abbrev pub next_words : Next → List ℕ
next_words (n.Ask i c) = ask_words i c
next_words (n.Picked p) = pick_words p

-- a choice that begins, or its refusal's number
abbrev pub begun_words : Outcome (ℕ × Choice) → List ℕ
begun_words (value (i, c)) = ask_words i c
begun_words (refused k vs) = k ∷ replicate 15 0

-- word k, or 0 where it passes the end
abbrev pub word_at : List ℕ → ℕ → ℕ
word_at s k = value_or 0 (field_at Big s (k * 8) 8)

-- the state that the words of an answer hold, for every value of them
abbrev pub flag : ℕ → Bool
flag w = not (eqb w 0)

abbrev pub asking_from : (tag index : ℕ) → Asking
asking_from t i = pick (eqb t 0) q.First (pick (eqb t 1) q.Second (q.Other (i % 256)))

abbrev pub candidate_in : List ℕ → ℕ → Candidate
candidate_in s k = record { index = word_at s k % 256; answer = range_from (flag (word_at s (k + 1))) (word_at s (k + 2)) (word_at s (k + 3)) }

abbrev pub choice_in : List ℕ → Choice
choice_in s = record { base = word_at s 5; first = candidate_in s 6; second = candidate_in s 10; asking = asking_from (word_at s 14) (word_at s 15) }
