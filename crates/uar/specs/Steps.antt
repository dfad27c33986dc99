-- The search as steps by value: the question of each state, what an answer makes of it, and the script that is left.
use Rattle.std.specs.Prelude.{ℕ, zero, suc, ◌+◌, ◌*◌, List, set, replicate, Option, Some, None, Result, Ok, Err}
use Rattle.fields.specs.Outcome.{Outcome, value, refused}
use Rattle.bars.specs.Resource.{Answer as Listed, resource_at}
use Rattle.bars.specs.Choose.{others_from}
use Rattle.bars.specs.Steps.{settled_of, step_of, choose_at}
use Rattle.bars.specs.declared.Asking.{Asking}
use Rattle.bars.specs.declared.Asking.TheVariants as k
use Rattle.bars.specs.declared.Choice.{Choice}
use Rattle.bars.specs.declared.Next.{Next}
use Rattle.bars.specs.declared.Next.TheVariants as n
use Rattle.pci.specs.Views.{dword_of, list_of}
use Rattle.pci.specs.Script.{Script}
use Rattle.pci.specs.Machine as m
use Rattle.pci.specs.declared.Question.{Question}
use Rattle.pci.specs.declared.Question.TheVariants as q
use Rattle.pci.specs.declared.Answer.{Answer}
use Rattle.pci.specs.declared.NoReply.{NoReply}
use Rattle.pci.specs.declared.NoReply.TheVariants.{Failed, Wrong}
use Rattle.uar.specs.Uar.{Found, range_from, other, scan, second, choosing, dword_at, reading}
use Rattle.uar.specs.declared.NotFound.TheVariants as f
use Rattle.uar.specs.declared.BarPhase.{BarPhase}
use Rattle.uar.specs.declared.BarPhase.TheVariants as p
use Rattle.uar.specs.declared.FindBar.{FindBar}
use Rattle.uar.specs.declared.BarStep.{BarStep}
use Rattle.uar.specs.declared.BarMove.{BarMove}
use Rattle.uar.specs.declared.BarMove.TheVariants as v

-- the first dword is asked for
abbrev pub started : FindBar
started = record { phase = p.Reading 5; dwords = replicate 6 0 }

-- THE QUESTIONS: a choice asks about the index that its open question names
abbrev pub index_at : Choice → Asking → ℕ
index_at c k.First = c.first.index
index_at c k.Second = c.second.index
index_at c (k.Other i) = i

abbrev pub index_of : Choice → ℕ
index_of c = index_at c c.asking

abbrev pub asks_at : BarPhase → Question
asks_at (p.Reading n) = q.ConfigRead32 (0x10 + dword_at n * 4)
asks_at (p.Choosing c) = q.Resource (index_of c)

abbrev pub bar_asks : FindBar → Question
bar_asks s = asks_at s.phase

-- THE STEPS
abbrev pub read_move : (n : ℕ) → Result ℕ NoReply → BarMove
read_move n (Ok x) = v.Save n x
read_move n (Err Failed) = v.End (Err f.Refused)
read_move n (Err Wrong) = v.Stay

abbrev pub led_of : Next → BarMove
led_of (n.Ask i c) = v.To c
led_of (n.Picked y) = v.End (Ok y)

-- a bad list ends the search at once
abbrev pub list_move : Choice → Listed → BarMove
list_move c (value r) = led_of (step_of c (range_from r))
list_move c (refused i vs) = v.End (Err f.BadList)

abbrev pub choice_move : Choice → (bytes : List ℕ) → Result (Unit {0}) NoReply → BarMove
choice_move c bytes (Ok _) = list_move c (resource_at bytes)
choice_move c bytes (Err Failed) = led_of (step_of c None)
choice_move c bytes (Err Wrong) = v.Stay

abbrev pub move_at : Answer → (bytes : List ℕ) → BarPhase → BarMove
move_at a bytes (p.Reading n) = read_move n (dword_of a)
move_at a bytes (p.Choosing c) = choice_move c bytes (list_of a)

-- all dwords are there, and the choice for register 2 begins
abbrev pub begins_by : List ℕ → Outcome (ℕ × Choice) → BarStep
begins_by ds (value x) = record { find = record { phase = p.Choosing x.1; dwords = ds }; ending = None }
begins_by ds (refused i vs) = record { find = record { phase = p.Reading 0; dwords = ds }; ending = Some (Err f.Refused) }

abbrev pub begins : List ℕ → BarStep
begins ds = begins_by ds (choose_at ds 2)

abbrev pub read_on : List ℕ → (n : ℕ) → BarStep
read_on ds zero = begins ds
read_on ds (suc n) = record { find = record { phase = p.Reading n; dwords = ds }; ending = None }

abbrev pub moved_of : FindBar → BarMove → BarStep
moved_of s v.Stay = record { find = s; ending = None }
moved_of s (v.Save n x) = read_on (set s.dwords (dword_at n) x) n
moved_of s (v.To c) = record { find = record { phase = p.Choosing c; dwords = s.dwords }; ending = None }
moved_of s (v.End r) = record { find = s; ending = Some r }

abbrev pub bar_step_of : FindBar → Answer → (bytes : List ℕ) → BarStep
bar_step_of s a bytes = moved_of s (move_at a bytes s.phase)

abbrev pub leads : FindBar → Option Found → m.Next FindBar Found
leads s None = m.more s
leads s (Some r) = m.ended r

abbrev pub next_of : BarStep → m.Next FindBar Found
next_of st = leads st.find st.ending

abbrev pub bar_step : FindBar → Answer → List ℕ → m.Next FindBar Found
bar_step s a bytes = next_of (bar_step_of s a bytes)

-- THE SCRIPT that is left in each state
abbrev pub choice_script : Choice → Asking → Script Found
choice_script c k.First = choosing c.base c.first.index c.second
choice_script c k.Second = second c.base c.first c.second.index
choice_script c (k.Other i) =
    other c.base i (scan c.base (settled_of c.first c.second) (others_from c.first.index c.second.index (suc i)))

abbrev pub script_at : List ℕ → BarPhase → Script Found
script_at ds (p.Reading n) = reading (suc n) ds
script_at ds (p.Choosing c) = choice_script c c.asking

abbrev pub bar_script : FindBar → Script Found
bar_script s = script_at s.dwords s.phase

abbrev pub BarFollows : Type 0
BarFollows = (s : FindBar) → m.Follows bar_asks bar_step bar_script s (bar_script s)
