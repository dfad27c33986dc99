-- The choice as steps by value: what each state of `Choice` makes of an answer, for every value of it; and that the steps ask and pick what
-- specs/Choose.antt says.
use Rattle.std.specs.Prelude.{ℕ, suc, List, [], ◌∷◌, ◌==◌, Option, Some, None, Result, Ok, Err}
use Rattle.fields.specs.Outcome.{Outcome, value, refused, pick}
use Rattle.bars.specs.Bars.{base_of, count_of, in_range}
use Rattle.bars.specs.Choose.{Table, has_base, others_from, asked, chosen}
use Rattle.bars.specs.declared.BarRange.{BarRange}
use Rattle.bars.specs.declared.BadRegister.{BadRegister}
use Rattle.bars.specs.declared.How.{How}
use Rattle.bars.specs.declared.How.TheVariants as h
use Rattle.bars.specs.declared.Pick.{Pick}
use Rattle.bars.specs.declared.Candidate.{Candidate}
use Rattle.bars.specs.declared.Asking.{Asking}
use Rattle.bars.specs.declared.Asking.TheVariants as q
use Rattle.bars.specs.declared.Choice.{Choice}
use Rattle.bars.specs.declared.Next.{Next}
use Rattle.bars.specs.declared.Next.TheVariants as n

-- the length that an answer gives
abbrev pub size_from : Option BarRange → Option ℕ
size_from (Some r) = Some r.length
size_from None = None

abbrev pub pick_of : Candidate → How → Pick
pick_of c how = record { index = c.index; size = size_from c.answer; how = how }

-- the pick where no base matches, by the two answers
abbrev pub settled_by : Candidate → Candidate → Option BarRange → Option BarRange → Pick
settled_by first second (Some x) (Some y) = pick_of first h.NoMatch
settled_by first second (Some x) None = pick_of first h.OnlyAnswer
settled_by first second None (Some y) = pick_of second h.OnlyAnswer
settled_by first second None None = pick_of first h.NoAnswer

abbrev pub settled_of : Candidate → Candidate → Pick
settled_of first second = settled_by first second first.answer second.answer

-- the state with another open question, or with a candidate's answer
abbrev pub asks : Choice → Asking → Choice
asks c q = record { base = c.base; first = c.first; second = c.second; asking = q }

abbrev pub hears : Candidate → Option BarRange → Candidate
hears c a = record { index = c.index; answer = a }

abbrev pub hears_first : Choice → Option BarRange → Choice
hears_first c a = record { base = c.base; first = hears c.first a; second = c.second; asking = c.asking }

abbrev pub hears_second : Choice → Option BarRange → Choice
hears_second c a = record { base = c.base; first = c.first; second = hears c.second a; asking = c.asking }

-- the next of the other indices is asked, or none is left
abbrev pub onward_of : Choice → List ℕ → Next
onward_of c [] = n.Picked (settled_of c.first c.second)
onward_of c (i ∷ is) = n.Ask i (asks c (q.Other i))

-- both candidates' answers are there
abbrev pub judged_of : Choice → Next
judged_of c =
    pick (c.base == 0) (n.Picked (settled_of c.first c.second))
    (pick (has_base c.base c.first.answer) (n.Picked (pick_of c.first h.BaseMatches))
    (pick (has_base c.base c.second.answer) (n.Picked (pick_of c.second h.BaseMatches))
    (onward_of c (others_from c.first.index c.second.index 0))))

-- an answer, by the open question; after another index, those above it are left, and none is above 5
abbrev pub step_at : Choice → Option BarRange → Asking → Next
step_at c a q.First =
    pick (c.first.index == c.second.index) (judged_of (hears_first c a)) (n.Ask c.second.index (asks (hears_first c a) q.Second))
step_at c a q.Second = judged_of (hears_second c a)
step_at c a (q.Other i) =
    pick (has_base c.base a) (n.Picked (pick_of (record { index = i; answer = a }) h.Scan))
    (onward_of c (others_from c.first.index c.second.index (suc i)))

abbrev pub step_of : Choice → Option BarRange → Next
step_of c a = step_at c a c.asking

-- no candidate has answered, and the first is asked
abbrev pub start_of : (base first second : ℕ) → Choice
start_of base first second =
    record { base = base; first = record { index = first; answer = None }; second = record { index = second; answer = None }; asking = q.First }

-- a choice begins with the first candidate; "register above 5": 4
abbrev pub choose_at : List ℕ → ℕ → Outcome (ℕ × Choice)
choose_at regs reg = in_range reg (reg, start_of (base_of regs reg) reg (count_of regs reg))

abbrev pub begun : Result (ℕ × Choice) BadRegister → Outcome (ℕ × Choice)
begun (Ok x) = value x
begun (Err e) = refused 4 []

-- what an answer led to, and every answer from the table after it: the indices asked from here on, in order, and the pick at the end
pub data Runs (t : Table) : Next → List ℕ → Pick → Type 0 where
  ends : {p : Pick} → Runs t (n.Picked p) [] p
  asks_on : {i : ℕ} {c : Choice} {is : List ℕ} {p : Pick} → Runs t (step_of c (t i)) is p → Runs t (n.Ask i c) (i ∷ is) p

-- the index picked, with the length that the table gives for it
abbrev pub picked : (base first second : ℕ) → Table → Pick
picked base first second t =
    let c : ℕ × How = chosen base first second t in record { index = c.0; size = size_from (t c.0); how = c.1 }

-- The steps ask exactly the indices of the definition, in its order, and end in its pick.
abbrev pub Follows : Type 0
Follows = (base first second : ℕ) (t : Table) → Runs t (n.Ask first (start_of base first second)) (asked base first second t) (picked base first second t)
