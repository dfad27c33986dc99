-- Closing, as a course. Document 01: "Closing sends undo records newest first, CLOSE_HCA, UNMAP_ICM newest first, UNMAP_ICM_AUX, UNMAP_FA; if one fails, or the
-- session is broken, it resets. It also resets where, by the card rules and the answers so far, the card could still use a page about to be freed. It then frees,
-- or keeps all if the reset failed. The result clean, reset or kept is added." And quiesce, which sends the same commands, silent, and gives nothing back.
use Rattle.std.specs.Prelude.{ℕ, zero, suc, ◌-◌, ◌%◌, ◌^◌, Bool, true, false, eqb}
use Rattle.fields.specs.Outcome.{pick}
use Rattle.hcr.specs.Words.{is_reserved}
use Rattle.hcr.specs.declared.Post.{Post}
use Rattle.command.specs.declared.CmdResult.{CmdResult}
use Rattle.command.specs.declared.CmdResult.TheVariants as r
use Rattle.reset.specs.Reset.{reset, is_good}
use Rattle.buffer.specs.Buffer.{freeing}
use Rattle.tasks.specs.Parting.{releasing, restoring, quieting}
use Rattle.session.specs.Session.{wired, broken, silent, slot_at, icm_at, is_held, fa_of, aux_of, imm_of}
use Rattle.session.specs.Course.{Course, ret, Here, here, left, slot, run, task, sends, Rest, at_rest}
use Rattle.session.specs.declared.Top.{Top}
use Rattle.session.specs.declared.Books.{Books}
use Rattle.session.specs.declared.Info.{Info}
use Rattle.session.specs.declared.Gave.TheVariants as v
use Rattle.session.specs.declared.Stage.TheVariants as g
use Rattle.session.specs.declared.Failure.{Failure}
use Rattle.session.specs.declared.Closing.{Closing}
use Rattle.session.specs.declared.Closing.TheVariants as c

-- a command was good
abbrev pub is_done : CmdResult → Bool
is_done (r.Done x us) = true
is_done (r.Status s us) = false
is_done (r.Timeout us) = false
is_done r.Busy = false
is_done (r.Bus us) = false

-- the newest undo record as a command, and the list without it
abbrev pub undo_post : Top → Post
undo_post u = imm_of u.op u.op_mod u.in_mod u.in_param

abbrev pub popped : Top → Top
popped u = record { count = u.count - 1; op = u.op; op_mod = u.op_mod; in_mod = u.in_mod; in_param = u.in_param }

-- how many undo records one call sends at most, so that every call ends; more than any list holds,
-- so that only a caller who pushes on and on is stopped, as by a failed undo command. No sentence
-- of the paper says so: docs/DECISIONS.md, O-11
abbrev pub UNDOS : ℕ
UNDOS = 2 ^ 32 - 1

module _ (n : Info) (f : Failure) where
  -- the end: the owner is released, the attributes are restored
  unfoldable pub restored : Closing → Books → Here → Course Rest
  restored c b h = task (restoring b.original) (λ x d k. ret (left k) (at_rest g.Ended d n f c)) b h

  unfoldable pub parted : Closing → Books → Here → Course Rest
  parted c b h = task releasing (λ x d k. restored c d k) b h

  -- the m slots from i on, one by one: a buffer is freed, and is off the books with the answer to its free
  unfoldable pub freed : (m i : ℕ) → (Books → Here → Course Rest) → Books → Here → Course Rest
  freed zero i k b h = k b h
  freed (suc m) i k b h =
      pick (is_held (slot_at b.lists.slots i))
      (run (slot i 0) (freeing (slot_at b.lists.slots i).handle (slot_at b.lists.slots i).pages) (λ u d j. freed m (suc i) k d j) b h)
      (freed m (suc i) k b h)

  unfoldable pub giving : Closing → Books → Here → Course Rest
  giving c b h = freed 82 0 (λ d k. parted c d k) b h

  -- "or keeps all if the reset failed"
  unfoldable pub resetting : Books → Here → Course Rest
  resetting b h = task reset (λ e d k. pick (is_good e) (giving c.Reset d k) (parted c.Kept d k)) b h

  -- the end of a quiesce: the session is broken, the owner register is cleared without the wait, and the bus master bit; nothing is freed, reset or restored
  unfoldable pub quieted : Books → Here → Course Rest
  quieted b h = task quieting (λ x d k. ret (left k) (at_rest (g.Open v.Nothing) d n f c.Clean)) (wired b (broken b.wire)) h

  -- "if one fails .. it resets"; a quiesce, which is silent, ends
  unfoldable pub failing : Books → Here → Course Rest
  failing b h = pick b.wire.silent (quieted b h) (resetting b h)

  -- all commands were good, and none may still run
  unfoldable pub stopped : Books → Here → Course Rest
  stopped b h = pick b.wire.silent (quieted b h) (pick b.wire.running (resetting b h) (giving c.Clean b h))

  abbrev pub onward : (Books → Here → Course Rest) → CmdResult → Books → Here → Course Rest
  onward k x b h = pick (is_done x) (k b h) (failing b h)

  unfoldable pub unmap_fa : Books → Here → Course Rest
  unmap_fa b h = pick (is_held (fa_of b)) (sends b (imm_of 0xffe 0 0 0) (onward stopped) h) (stopped b h)

  unfoldable pub unmap_aux : Books → Here → Course Rest
  unmap_aux b h = pick (is_held (aux_of b)) (sends b (imm_of 0xffb 0 0 0) (onward unmap_fa) h) (unmap_fa b h)

  -- the ranges below i, newest first; a range's pages and its card address
  unfoldable pub unmapping : (i : ℕ) → Books → Here → Course Rest
  unmapping zero b h = unmap_aux b h
  unmapping (suc i) b h =
      sends b (imm_of 0xff9 0 ((icm_at b.lists.slots i).pages % 2 ^ 32) (icm_at b.lists.slots i).virt) (onward (unmapping i)) h

  unfoldable pub close_hca : Books → Here → Course Rest
  close_hca b h = pick b.started (sends b (imm_of 0x008 0 0 0) (onward (λ d j. unmapping d.lists.ranges d j)) h) (unmapping b.lists.ranges b h)

  -- the newest record of the list as it is lent then: "An undo record is taken off before its command is sent; one under 22 stays on, but .. counts as a failed
  -- undo command"
  unfoldable pub undoing : (more : ℕ) → Books → Here → Course Rest
  undoing zero b h = pick (eqb h.undo.count 0) (close_hca b h) (failing b h)
  undoing (suc k) b h =
      pick (eqb h.undo.count 0) (close_hca b h)
      (pick (is_reserved h.undo.op) (failing b h)
      (sends b (undo_post h.undo) (onward (undoing k)) (here h.inbox h.outbox (popped h.undo))))

  -- CLOSING
  unfoldable pub stopping : Books → Here → Course Rest
  stopping b h = pick b.wire.broken (resetting b h) (undoing UNDOS b h)

  -- QUIESCE: silent from here on
  unfoldable pub quiescing : Books → Here → Course Rest
  quiescing b h = pick b.wire.broken (quieted (wired b (silent b.wire)) h) (undoing UNDOS (wired b (silent b.wire)) h)
