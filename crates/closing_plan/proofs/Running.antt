-- WHERE THE RULE FIRES that resets because a command may still run. After a good command none does, so it can fire only in a closing that has sent nothing: one of
-- a session that is not broken, has no undo record, was not started and holds no range and no area.
use mathlib.Core.Bool.{true, false}
use mathlib.Core.Path.{◌≡◌, refl}
use Rattle.command.specs.declared.CmdEnd.{CmdEnd}
use Rattle.command.specs.declared.CmdResult.{CmdResult}
use Rattle.command.specs.declared.CmdResult.TheVariants as r
use Rattle.session.specs.Session.{end_seen, after, wired}
use Rattle.session.specs.Course.{Here}
use Rattle.session.specs.declared.Wire.{Wire}
use Rattle.session.specs.declared.Books.{Books}
use Rattle.session.specs.declared.Info.{Info}
use Rattle.session.specs.declared.Failure.{Failure}
use Rattle.session.specs.declared.Closing.TheVariants as c
use Rattle.closing_plan.specs.Closing.{is_done, stopped, giving}

pub done_seen : (x : CmdResult) → is_done x ≡ true → end_seen x ≡ true
done_seen (r.Done y us) d = refl
done_seen (r.Status s us) d = refl
done_seen (r.Timeout us) d = d
done_seen r.Busy d = d
done_seen (r.Bus us) d = d

pub none_runs : (w : Wire) (x : CmdEnd) → is_done x.result ≡ true → (after w x).running ≡ false
none_runs w x d = rw (done_seen x.result d) refl

pub no_reset_after_good : (n : Info) (f : Failure) (b : Books) (x : CmdEnd) (h : Here) → b.wire.silent ≡ false → is_done x.result ≡ true
    → stopped n f (wired b (after b.wire x)) h ≡ giving n f c.Clean (wired b (after b.wire x)) h
unfolding stopped
no_reset_after_good n f b x h q d = rw (q, none_runs b.wire x d) refl
