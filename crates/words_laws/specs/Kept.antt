-- What is shown of a session that is kept as words. The theorems are `trip` (what was written is read), `decode_parts` (what was read stands there, part by part), and
-- those of proofs/Put.antt: the head, the task or one part behind them is written, and the session is read back with that part alone another.
use Rattle.std.specs.Prelude.{ℕ, ◌≤◌, List, ◌≡◌, length, Option}
use Rattle.fields.specs.Outcome.{value}
use Rattle.words.specs.Places.{SLOTS, state_bytes}
use Rattle.words.specs.Words.{Each}
use Rattle.words_task.specs.Fits.{TaskFits}
use Rattle.words_stage.specs.Fits.{StageFits}
use Rattle.words_books.specs.Fits.{SlotFits, LedgerFits}
use Rattle.words_info.specs.Fits.{ToldFits, CapFits, PortFits}
use Rattle.words_beside.specs.Fits.{ResetFits, FindFits}
use Rattle.words_session.specs.Image.{core_of, ledger_for, told_for, decode_of}
use Rattle.behind.specs.Behind.{behind_in}
use Rattle.work.specs.declared.Task.{Task}
use Rattle.session.specs.Core.{Behind, full, cap_in, port_in}
use Rattle.session.specs.declared.Core.{Core}
use Rattle.session.specs.declared.Note.{Note}
use Rattle.session.specs.declared.Note.TheVariants as n
use Rattle.session.specs.declared.Session.{Session}

-- each number is one of its type, each array has its length, and the counts are within the slots
pub record Fits (s : Session) : Type 0 where
  pub task : TaskFits s.work.task
  pub stage : StageFits s.stage
  pub ledger : LedgerFits (ledger_for (core_of s))
  pub told : ToldFits (told_for (core_of s))
  pub cap : CapFits s.info.cap
  pub port1 : PortFits s.info.port1
  pub port2 : PortFits s.info.port2
  pub reset : ResetFits s.work.reset
  pub find : FindFits s.work.find
  pub ranges : s.books.lists.ranges ≤ 14
  pub lends : s.books.lists.lends ≤ 64
  pub slots_length : length s.books.lists.slots ≡ SLOTS
  pub slots : Each SlotFits s.books.lists.slots

-- the session with another task, as a poll leaves it
abbrev pub with_task : Session → Task → Session
with_task s t = record {
  stage = s.stage;
  work = record { task = t; reset = s.work.reset; find = s.work.find };
  books = s.books;
  info = s.info;
  failure = s.failure;
  closing = s.closing;
}

-- a head whose parts fit
pub record HeadFits (c : Core) : Type 0 where
  pub task : TaskFits c.task
  pub stage : StageFits c.stage
  pub ledger : LedgerFits (ledger_for c)
  pub told : ToldFits (told_for c)
  pub ranges : c.ranges ≤ 14
  pub lends : c.lends ≤ 64

-- what a reply leaves fits
abbrev pub NoteFits : Note → Option ℕ → (outbox : List ℕ) → Type 0
NoteFits n.Nothing z o = Unit {0}
NoteFits n.Cap z o = CapFits (cap_in o z)
NoteFits (n.Port i) z o = PortFits (port_in o i)

-- BYTES ARE WRITTEN BEHIND THE HEAD, and are enough for a session: b stands there now; and where they held a session, they hold the one with that head and with b
pub record Rewritten (before after : List ℕ) (b : Behind) : Type 0 where
  pub enough : state_bytes ≤ length after
  pub reads : behind_in after ≡ b
  pub holds : (c : Core) → decode_of before ≡ value (full c (behind_in before)) → decode_of after ≡ value (full c b)

abbrev pub Rewrites : (before after : List ℕ) → Behind → Type 0
Rewrites s z b = state_bytes ≤ length s → Rewritten s z b
