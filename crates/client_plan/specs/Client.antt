-- A client's calls on an open session, as courses. Document 01: "Client commands go through `Hca::cmd`", in the forms `imm`, `with_in`, `with_out`, `in_imm`, `in_out`
-- of the command register; `lend`; `undo_to`.
use Rattle.std.specs.Prelude.{ℕ, zero, suc, Bool, true, false, List, [], ◌∷◌, leb, ltb}
use Rattle.fields.specs.Outcome.{pick}
use Rattle.hcr.specs.Words.{is_reserved}
use Rattle.hcr.specs.declared.Post.{Post}
use Rattle.pci.specs.declared.Refusal.TheVariants as x
use Rattle.command.specs.declared.CmdResult.{CmdResult}
use Rattle.command.specs.declared.CmdResult.TheVariants as r
use Rattle.buffer.specs.Buffer.{making}
use Rattle.buffer.specs.declared.Made.{Made}
use Rattle.buffer.specs.declared.Made.TheVariants as m
use Rattle.session.specs.Session.{wired, broken, inbox_of, outbox_of, lent_to}
use Rattle.session.specs.Failures.{fault_of, failure_of, broken_by}
use Rattle.session.specs.Course.{Course, ret, Here, here, left, blank, Place, neither, slot, run, sends, Rest, at_rest}
use Rattle.session.specs.declared.Books.{Books}
use Rattle.session.specs.declared.Info.{Info}
use Rattle.session.specs.declared.Form.{Form}
use Rattle.session.specs.declared.Form.TheVariants as o
use Rattle.session.specs.declared.Gave.{Gave}
use Rattle.session.specs.declared.Gave.TheVariants as v
use Rattle.session.specs.declared.Stage.TheVariants as g
use Rattle.session.specs.declared.Failure.{Failure}
use Rattle.session.specs.declared.Closing.{Closing}
use Rattle.closing_plan.specs.Closing.{is_done, undo_post, popped, UNDOS}
use Rattle.client_plan.specs.declared.Request.{Request}

-- THE FORMS. Which mailboxes a form names, and whether it gives the immediate
abbrev pub takes_input : Form → Bool
takes_input o.Imm = false
takes_input o.WithIn = true
takes_input o.WithOut = false
takes_input o.InImm = true
takes_input o.InOut = true

abbrev pub gives_output : Form → Bool
gives_output o.Imm = false
gives_output o.WithIn = false
gives_output o.WithOut = true
gives_output o.InImm = false
gives_output o.InOut = true

abbrev pub gives_immediate : Form → Bool
gives_immediate o.Imm = true
gives_immediate o.WithIn = false
gives_immediate o.WithOut = false
gives_immediate o.InImm = true
gives_immediate o.InOut = false

abbrev pub in_address : Books → Form → (in_param : ℕ) → ℕ
in_address b o.Imm y = y
in_address b o.WithIn y = (inbox_of b).dev
in_address b o.WithOut y = 0
in_address b o.InImm y = (inbox_of b).dev
in_address b o.InOut y = (inbox_of b).dev

abbrev pub out_address : Books → Form → ℕ
out_address b o.Imm = 0
out_address b o.WithIn = 0
out_address b o.WithOut = (outbox_of b).dev
out_address b o.InImm = 0
out_address b o.InOut = (outbox_of b).dev

abbrev pub post_of : Books → Request → Post
post_of b y = record { op = y.op; op_mod = y.op_mod; in_mod = y.in_mod; in_param = in_address b y.form y.in_param; out_param = out_address b y.form }

-- THE MAILBOXES before the first question: the input at the start of a zeroed inbox, the outbox zeroed
unfoldable pub over : (from to : List ℕ) → List ℕ
over [] s = s
over (y ∷ ys) [] = []
over (y ∷ ys) (x ∷ xs) = y ∷ over ys xs

abbrev pub lesser : ℕ → ℕ → ℕ
lesser a b = pick (ltb a b) a b

abbrev pub input_in : Form → (input inbox : List ℕ) → List ℕ
input_in k y i = pick (takes_input k) (over y (blank i)) i

abbrev pub output_in : Form → (outbox : List ℕ) → List ℕ
output_in k s = pick (gives_output k) (blank s) s

abbrev pub readied : Form → (input : List ℕ) → Here → Here
readied k y h = here (input_in k y h.inbox) (output_in k h.outbox) h.undo

-- WHAT A COMMAND GIVES: its immediate, where the form has one, and the microseconds waited; or 6 to 9
abbrev pub gave_by : Form → CmdResult → Gave
gave_by k (r.Done y us) = v.Command (pick (gives_immediate k) y 0) us
gave_by k (r.Status s us) = v.Failed (failure_of (r.Status s us))
gave_by k (r.Timeout us) = v.Failed (failure_of (r.Timeout us))
gave_by k r.Busy = v.Failed (failure_of r.Busy)
gave_by k (r.Bus us) = v.Failed (failure_of (r.Bus us))

-- the slot of a buffer that is lent; there are 64
abbrev pub lend_at : ℕ → Place
lend_at i = pick (ltb i 64) (slot i 0) neither

module _ (n : Info) (f : Failure) (c : Closing) where
  -- the session is open, and this is what the call gave
  abbrev pub gives : Gave → Books → Here → Course Rest
  gives y b h = ret (left h) (at_rest (g.Open y) b n f c)

  -- A COMMAND: "broken is set only there", after 7, 8 and 9
  unfoldable pub commanding : Request → (input : List ℕ) → Books → Here → Course Rest
  commanding y input b h = sends b (post_of b y) (λ a d j. gives (gave_by y.form a) (broken_by a d) j) (readied y.form input h)

  -- LEND: one buffer more on the list, in the next slot; 5 and 18 leave it
  abbrev pub lent_by : (i : ℕ) → Made → Books → Here → Course Rest
  lent_by i (m.Ready y) b h = gives (v.Lent i) (lent_to b) h
  lent_by i (m.Refused e) b h = gives (v.Failed (fault_of e)) b h

  unfoldable pub lending : (bytes : ℕ) → Books → Here → Course Rest
  lending bytes b h = run (lend_at b.lists.lends) (making bytes) (λ y d j. lent_by b.lists.lends y d j) b h

  -- UNDO_TO: the newest record of the list as it is lent then, while there are more than `mark`. "An undo record is taken off before its command is sent"; "one the caller
  -- has since made so ends it with 22"; "23 undo of a record wanted on a broken session, or an undo
  -- command failed". Behind UNDOS records it is 23 as well, so that every call ends: no sentence of
  -- the paper says so (docs/DECISIONS.md, O-11)
  unfoldable pub undoing : (mark more : ℕ) → Books → Here → Course Rest
  undoing mark zero b h =
      pick (leb h.undo.count mark) (gives v.Nothing b h)
      (pick b.wire.broken (gives (v.Failed x.Undo) b h) (gives (v.Failed x.Undo) (wired b (broken b.wire)) h))
  undoing mark (suc k) b h =
      pick (leb h.undo.count mark) (gives v.Nothing b h)
      (pick b.wire.broken (gives (v.Failed x.Undo) b h)
      (pick (is_reserved h.undo.op) (gives (v.Failed x.Opcode) b h)
      (sends b (undo_post h.undo) (λ a d j. pick (is_done a) (undoing mark k d j) (gives (v.Failed x.Undo) (wired d (broken d.wire)) j))
      (here h.inbox h.outbox (popped h.undo)))))

  abbrev pub undoing_to : (mark : ℕ) → Books → Here → Course Rest
  undoing_to mark b h = undoing mark UNDOS b h
