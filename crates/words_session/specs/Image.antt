-- A session as words, and the session that words stand for: the head, and what stands behind it (crates/behind/specs/Behind.antt). Where each part stands, and how
-- many words it has: crates/words/specs/Places.antt.
use Rattle.std.specs.Prelude.{ℕ, Bool, false, List, [], ◌++◌, length, leb, ltb}
use Rattle.fields.specs.Outcome.{Outcome, value, refused, pick}
use Rattle.words.specs.Places.{TASK, STAGE, LEDGER, TOLD, SLOTS, task_at, stage_at, ledger_at, told_at, cap_at}
use Rattle.words.specs.Places.{port1_at, port2_at, reset_at, find_at, slots_at, state_bytes}
use Rattle.words.specs.Words.{words_in, put_words, same_words, flat}
use Rattle.words_task.specs.Coding.{task_words, task_of}
use Rattle.words_stage.specs.Coding.{stage_words, stage_of}
use Rattle.words_books.specs.Coding.{slot_words, ledger_words, ledger_of}
use Rattle.words_books.specs.declared.Ledger.{Ledger}
use Rattle.words_info.specs.Coding.{told_words, told_of, cap_words, port_words}
use Rattle.words_info.specs.declared.Told.{Told}
use Rattle.words_beside.specs.Coding.{reset_words, find_words}
use Rattle.work.specs.declared.Task.{Task}
use Rattle.session.specs.Session.{fresh}
use Rattle.session.specs.Core.{Behind, behind, full}
use Rattle.session.specs.declared.Core.{Core}
use Rattle.session.specs.declared.Session.{Session}
use Rattle.behind.specs.Behind.{behind_from, put_part, flags_stand}
use Rattle.words_session.specs.declared.Kept.{Kept}
use Rattle.words_session.specs.declared.Kept.TheVariants as k

-- WHAT A SESSION IS MADE OF: its head, and what stands behind
abbrev pub core_of : Session → Core
core_of s = record {
  stage = s.stage;
  task = s.work.task;
  wire = s.books.wire;
  ranges = s.books.lists.ranges;
  lends = s.books.lists.lends;
  started = s.books.started;
  original = s.books.original;
  uar = s.info.uar;
  func = s.info.func;
  rev3 = s.info.rev3;
  failure = s.failure;
  closing = s.closing;
}

abbrev pub behind_of : Session → Behind
behind_of s = behind s.work.reset s.work.find s.info.cap s.info.port1 s.info.port2 s.books.lists.slots

-- of the head: what is neither the task nor the stage, nor was told; and what was told
abbrev pub ledger_for : Core → Ledger
ledger_for c = record {
  ranges = c.ranges;
  lends = c.lends;
  started = c.started;
  original = c.original;
  wire = c.wire;
  failure = c.failure;
  closing = c.closing;
}

abbrev pub told_for : Core → Told
told_for c = record { uar = c.uar; func = c.func; rev3 = c.rev3 }

-- THE WORDS, one part after the other
abbrev pub head_words : Core → List ℕ
head_words c = task_words c.task ++ (stage_words c.stage ++ (ledger_words (ledger_for c) ++ told_words (told_for c)))

abbrev pub tail_words : Behind → List ℕ
tail_words b = reset_words b.reset ++ (find_words b.find ++ flat slot_words b.slots)

abbrev pub behind_words : Behind → List ℕ
behind_words b = cap_words b.cap ++ (port_words b.port1 ++ (port_words b.port2 ++ tail_words b))

abbrev pub session_words : Session → List ℕ
session_words s = head_words (core_of s) ++ behind_words (behind_of s)

-- THE BYTES once the head stands in them, once another task does, and once the whole session does; as they were, where they are too few
abbrev pub put_head : Core → List ℕ → List ℕ
put_head c xs = put_part task_at (head_words c) xs

abbrev pub put_task : Task → List ℕ → List ℕ
put_task t xs = put_part task_at (task_words t) xs

abbrev pub put_session : List ℕ → Session → List ℕ
put_session xs s = put_words xs task_at (session_words s)

abbrev pub encoded_in : List ℕ → Session → List ℕ
encoded_in xs s = put_part task_at (session_words s) xs

-- THE HEAD that words stand for, and the session
abbrev pub core_from : List ℕ → Ledger → Told → Core
core_from xs l t = record {
  stage = stage_of (words_in xs stage_at STAGE);
  task = task_of (words_in xs task_at TASK);
  wire = l.wire;
  ranges = l.ranges;
  lends = l.lends;
  started = l.started;
  original = l.original;
  uar = t.uar;
  func = t.func;
  rev3 = t.rev3;
  failure = l.failure;
  closing = l.closing;
}

abbrev pub core_in : List ℕ → Core
core_in xs = core_from xs (ledger_of (words_in xs ledger_at LEDGER)) (told_of (words_in xs told_at TOLD))

-- the same; a fresh one, where the bytes are too few
abbrev pub head_in : List ℕ → Core
head_in xs = pick (ltb (length xs) state_bytes) (core_of fresh) (core_in xs)

abbrev pub session_in : List ℕ → Session
session_in xs = full (core_in xs) (behind_from xs)

-- WORDS THAT ARE A SESSION: those of the session that they stand for, so that each tag, each bool and each number is one of its type; and the counts are within
-- their slots. First the head, then what stands behind it.
abbrev pub counts_fit : Core → Bool
counts_fit c = pick (ltb 14 c.ranges) false (leb c.lends 64)

abbrev pub head_stands : List ℕ → Core → Bool
head_stands xs c =
    pick (counts_fit c)
    (pick (same_words xs task_at (task_words c.task))
    (pick (same_words xs stage_at (stage_words c.stage))
    (pick (same_words xs ledger_at (ledger_words (ledger_for c))) (same_words xs told_at (told_words (told_for c))) false) false) false) false

-- the reset and the search, then the slots; before them the capabilities and the ports
abbrev pub tail_stands : List ℕ → Behind → Bool
tail_stands xs b =
    pick (same_words xs reset_at (reset_words b.reset))
    (pick (same_words xs find_at (find_words b.find)) (flags_stand xs slots_at SLOTS) false) false

abbrev pub behind_stands : List ℕ → Behind → Bool
behind_stands xs b =
    pick (same_words xs cap_at (cap_words b.cap))
    (pick (same_words xs port1_at (port_words b.port1))
    (pick (same_words xs port2_at (port_words b.port2)) (tail_stands xs b) false) false) false

abbrev pub stands : List ℕ → Session → Bool
stands xs s = pick (head_stands xs (core_of s)) (behind_stands xs (behind_of s)) false

-- WHAT AN ANSWER TESTS, the head; and what a call tests, the whole. 21 where the bytes are too few, 20 where they are no session.
abbrev pub read_by : Bool → List ℕ → Outcome Session
read_by b xs = pick (ltb (length xs) state_bytes) (refused 21 []) (pick b (value (session_in xs)) (refused 20 []))

abbrev pub head_of : List ℕ → Outcome Session
head_of xs = read_by (head_stands xs (core_in xs)) xs

abbrev pub decode_of : List ℕ → Outcome Session
decode_of xs = read_by (stands xs (session_in xs)) xs

-- a session was written, or the bytes are too few
abbrev pub wrote_of : List ℕ → Outcome Unit
wrote_of xs = pick (ltb (length xs) state_bytes) (refused 21 []) (value tt)

-- what each answer stands for
abbrev pub kept_as : Session → Kept → Outcome Session
kept_as s k.Good = value s
kept_as s k.Short = refused 21 []
kept_as s k.NoSession = refused 20 []
