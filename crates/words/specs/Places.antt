-- THE IMAGE OF A SESSION, in words of eight bytes: how many words each part has, and the word that it begins at, which is where the part before it ends. First the head: the
-- task, which is all that changes while a command is polled, the stage and the ledger. Then the notes: what was told, the capabilities, the two ports, the reset and the search
-- for the UAR BAR. Last the slots of the books, a row each.
use Rattle.std.specs.Prelude.{ℕ, ◌+◌, ◌*◌}

-- HOW MANY WORDS
abbrev pub TASK : ℕ
TASK = 13

abbrev pub STAGE : ℕ
STAGE = 8

abbrev pub LEDGER : ℕ
LEDGER = 16

abbrev pub TOLD : ℕ
TOLD = 8

abbrev pub CAP : ℕ
CAP = 32

abbrev pub PORT : ℕ
PORT = 17

abbrev pub RESET : ℕ
RESET = 24

abbrev pub FIND : ℕ
FIND = 18

-- a slot's, and how many slots there are
abbrev pub SLOT : ℕ
SLOT = 6

abbrev pub SLOTS : ℕ
SLOTS = 82

-- WHERE: the head
abbrev pub task_at : ℕ
task_at = 0

abbrev pub stage_at : ℕ
stage_at = task_at + TASK

abbrev pub ledger_at : ℕ
ledger_at = stage_at + STAGE

-- the notes
abbrev pub told_at : ℕ
told_at = ledger_at + LEDGER

abbrev pub cap_at : ℕ
cap_at = told_at + TOLD

abbrev pub port1_at : ℕ
port1_at = cap_at + CAP

abbrev pub port2_at : ℕ
port2_at = port1_at + PORT

abbrev pub reset_at : ℕ
reset_at = port2_at + PORT

abbrev pub find_at : ℕ
find_at = reset_at + RESET

-- the slots
abbrev pub slots_at : ℕ
slots_at = find_at + FIND

-- THE WHOLE, in words and in bytes
abbrev pub state_words : ℕ
state_words = slots_at + SLOTS * SLOT

abbrev pub state_bytes : ℕ
state_bytes = state_words * 8
