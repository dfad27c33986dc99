-- A COMMAND THAT GOES ON LEAVES A SESSION: where the bytes held one, they hold what the answer makes of it, though its own words alone were written.
use Prim.Native.Nat.{ℕ, ◌^◌, ◌<◌}
use native.Mathlib.Omega.{arith}
use mathlib.Core.Bool.{Bool, true, false}
use mathlib.Core.List.{List}
use mathlib.Core.Path.{◌≡◌, refl, ap, sym, subst, ◌∙◌}
use borrow.Author.Tests.{le-leb}
use lib.Dec.{eqb}
use Rattle.fields.specs.Outcome.{Outcome, value, refused}
use Rattle.fields.specs.declared.Order.TheVariants.{Little}
use Rattle.fields.proofs.Laws.{Bytes, number_lt}
use Rattle.words.specs.Words.{word_at, words_in}
use Rattle.words_task.specs.Coding.{cmd_of, catas_of, task_words}
use Rattle.words_task.specs.Fits.{CatasFits, PhaseFits, CmdFits, TaskFits}
use Rattle.words_session.specs.Image.{decode_of}
use Rattle.words_laws.specs.Kept.{with_task}
use Rattle.words_laws.proofs.Parts.{decode_parts, parts_decode}
use Rattle.words_laws.proofs.Put.{put_task_lem}
use Rattle.behind.proofs.Laws.{put_long}
use Rattle.words_session.specs.Image.{core_of, behind_of}
use Rattle.command.specs.Machine.{in_phase, stalled_by, posted}
use Rattle.command.specs.declared.Cmd.{Cmd}
use Rattle.command.specs.declared.Phase.{Phase}
use Rattle.command.specs.declared.Phase.TheVariants as ph
use Rattle.work.specs.declared.Task.{Task}
use Rattle.work.specs.declared.Task.TheVariants as t
use Rattle.fw_plan.specs.Calls.{asks_of, wants, booked_by, step_of}
use Rattle.pci.specs.declared.Answer.{Answer}
use Rattle.session.specs.declared.Top.{Top}
use Rattle.session.specs.declared.Session.{Session}
use Rattle.in_place.specs.InPlace.{ready_for, onward_of, goes_on, state_after}
use Rattle.in_place.specs.declared.Next.{Next}
use Rattle.in_place.specs.declared.Next.TheVariants as n
use Rattle.abi.specs.Kept.{answer_next, known_next, heard_next, Keeps, Holds}
use Rattle.abi.proofs.Calls.{not_so, none, Onward}
use Rattle.abi.proofs.Onward.{on_to}
use Rattle.abi.proofs.Poll.{Known, Ready, Goes, no_deal, put_hot, task_cmd, on}

-- THE COMMAND THAT WAS READ: its numbers are below the bounds of their widths, since its words were cut to them
record Small (c : Cmd) : Type 0 where
  op : c.post.op < 2 ^ 16
  op_mod : c.post.op_mod < 2 ^ 8
  in_mod : c.post.in_mod < 2 ^ 32
  in_param : c.post.in_param < 2 ^ 64
  out_param : c.post.out_param < 2 ^ 64
  stalls : c.stalls < 2 ^ 32
  catas : CatasFits c.catas

by_tag : (tag a b : ℕ) → b < 2 ^ 64 → CatasFits (catas_of tag a b)
by_tag tag a b h = by (eqb tag 1) refl
  where
    by : (g : Bool) → eqb tag 1 ≡ g → CatasFits (catas_of tag a b)
    by true e = rw e tt
    by false e = rw e (omega arith, h)

cmd_small : (s : List ℕ) → Bytes s → Small (cmd_of (words_in s 0 13))
unfolding words_in
cmd_small s b = record {
  op = omega arith;
  op_mod = omega arith;
  in_mod = omega arith;
  in_param = number_lt Little s 48 8 b;
  out_param = number_lt Little s 56 8 b;
  stalls = omega arith;
  catas = by_tag (word_at s 10) (word_at s 11) (word_at s 12) (number_lt Little s 96 8 b);
}

task_small : (s : List ℕ) (x : Session) (c : Cmd) → Bytes s → decode_of s ≡ value x → x.work.task ≡ t.Cmd c → Small c
task_small s x c b d is = subst Small (task_cmd s x c d is) (cmd_small s b)

-- so are those of the command that goes on
phase_small : (c : Cmd) (f : Phase) → PhaseFits f → Small c → CmdFits (in_phase c f)
phase_small c f k h =
    record { phase = k; op = h.op; op_mod = h.op_mod; in_mod = h.in_mod; in_param = h.in_param; out_param = h.out_param; stalls = h.stalls; catas = h.catas }

stalled_small : (c : Cmd) (n : ℕ) → n < 2 ^ 32 → Small c → CmdFits (stalled_by c n)
stalled_small c n l h =
    record { phase = tt; op = h.op; op_mod = h.op_mod; in_mod = h.in_mod; in_param = h.in_param; out_param = h.out_param; stalls = l; catas = h.catas }

posted_small : (c : Cmd) → Small c → CmdFits (posted c)
posted_small c h =
    record { phase = tt; op = h.op; op_mod = h.op_mod; in_mod = h.in_mod; in_param = h.in_param; out_param = h.out_param; stalls = omega arith; catas = h.catas }

on_small : (c : Cmd) (z : Next) → goes_on z ≡ true → Known c z → Small c → CmdFits (on_to c z)
on_small c (n.Write i) g k h = phase_small c (ph.Writing i) k h
on_small c n.Fence g k h = phase_small c ph.Fence tt h
on_small c n.Go g k h = phase_small c ph.Go tt h
on_small c (n.Posted y) g k h = posted_small c h
on_small c (n.Stall us) g k h = phase_small c ph.Wait tt h
on_small c (n.Read m) g k h = stalled_small c m k h
on_small c n.Fenced g k h = phase_small c ph.Fenced tt h
on_small c n.Status g k h = phase_small c ph.Status tt h
on_small c n.High g k h = phase_small c ph.High tt h
on_small c (n.Low v) g k h = phase_small c (ph.Low v) k h
on_small c n.Other g k h = not_so g

-- THE SESSION AFTER THE ANSWER is that with the new task
goes_next : (x : Session) (v : Answer) (r : List ℕ) (u : Top) (s i b w : List ℕ) (k : Task) → decode_of s ≡ value x → Ready s i b u.count w → Goes x v r k
    → answer_next v r u i b w x ≡ with_task x k
unfolding answer_next step_of
goes_next x v r u s i b w k d y g =
    let p = decode_parts s x d in
    let booked : booked_by (wants x) (asks_of x) v x.books ≡ x.books = no_deal (wants x) (asks_of x) v x.books g.deal in
    simp (le-leb x.books.lists.ranges 14 p.ranges, le-leb x.books.lists.lends 64 p.lends, g.suits, y.lent, y.room, booked, g.next)

-- the task's words are read back
polled : (s : List ℕ) (x : Session) (k : Task) → TaskFits k → decode_of s ≡ value x → decode_of (put_hot s k) ≡ value (with_task x k)
polled s x k fit d =
    let p = decode_parts s x d in
    ap decode_of (put_long 0 (task_words k) s p.enough) ∙ parts_decode _ _ (put_task_lem s (core_of x) (behind_of x) k fit p)

-- THE BYTES after an answer that leads on hold what it makes of the session
pub on_holds : (v : Answer) (r : List ℕ) (u : Top) (s i b w : List ℕ) → Bytes s → (z : Next) → onward_of s v i b u.count w ≡ z → goes_on z ≡ true
    → Holds s (state_after z s) (answer_next v r u i b w)
unfolding Holds Keeps
on_holds v r u s i b w bs z e g x d =
    let o = on v r u s i b w x bs d z e g in
    let k = t.Cmd (on_to o.cmd z) in
    ap decode_of o.bytes ∙ polled s x k (on_small o.cmd z g o.took.known (task_small s x o.cmd bs d o.is)) d
    ∙ ap value (sym (goes_next x v r u s i b w k d o.lent o.goes))

-- the same of an answer as numbers
pub goes_holds : (r : List ℕ) (u : Top) (s i b w : List ℕ) → Bytes s → (h : Outcome Answer) (z : Next) → Onward r u s i b w h z → goes_on z ≡ true → (l : List ℕ) → l ≡ state_after z s
    → Holds s l (heard_next h r u i b w)
unfolding known_next
goes_holds r u s i b w bs (value v) z e g l f = subst (λ (y : List ℕ). Holds s y (answer_next v r u i b w)) (sym f) (on_holds v r u s i b w bs z (sym e) g)
goes_holds r u s i b w bs (refused m vs) z e g l f = not_so (sym (none s m vs (ready_for s i b u.count w)) ∙ ap goes_on (sym e) ∙ g)
