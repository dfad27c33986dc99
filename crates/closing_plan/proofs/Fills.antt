-- A closing and a quiesce write no mailbox byte: whatever step it comes to, nothing is to be written.
use Prim.Native.Nat.{ℕ, zero, suc, ◌-◌}
use mathlib.Core.Bool.{Bool, true, false}
use mathlib.Core.Path.{◌≡◌, refl}
use lib.Dec.{eqb}
use Rattle.fields.specs.Outcome.{pick}
use Rattle.hcr.specs.Words.{is_reserved}
use Rattle.reset.specs.Reset.{is_good}
use Rattle.work.specs.declared.End.{End}
use Rattle.session.specs.Session.{took_of, silenced_of, slot_at, is_held, fa_of, aux_of}
use Rattle.session.specs.declared.Top.{Top}
use Rattle.session.specs.declared.Close.{Close}
use Rattle.session.specs.declared.Close.TheVariants as k
use Rattle.session.specs.declared.Closing.{Closing}
use Rattle.session.specs.declared.Closing.TheVariants as c
use Rattle.session.specs.declared.Fill.TheVariants as w
use Rattle.session.specs.declared.Session.{Session}
use Rattle.session.specs.declared.Planned.{Planned}
use Rattle.closing_plan.specs.Closing.{is_done, UNDOS}
use Rattle.closing_plan.specs.Plan.{cmd_in, reset_in, closes_of, frees_plan, give_plan, failed_plan, quiesce_plan, stopped_plan, unmap_fa_plan, unmap_aux_plan, unmap_plan, close_hca_plan, undo_send, undo_plan, stop_plan, close_plan}

pick_fill : (b : Bool) (x y : Planned) → x.fill ≡ w.Nothing → y.fill ≡ w.Nothing → (pick b x y).fill ≡ w.Nothing
pick_fill true x y d e = d
pick_fill false x y d e = e

frees_fill : (m i : ℕ) (s : Session) (u : ℕ) → (frees_plan m i s u).fill ≡ w.Nothing
unfolding frees_plan
frees_fill zero i s u = refl
frees_fill (suc m) i s u = pick_fill (is_held (slot_at s.books.lists.slots i)) _ _ refl (frees_fill m (suc i) s u)

give_fill : (s : Session) (c : Closing) (u : ℕ) → (give_plan s c u).fill ≡ w.Nothing
give_fill s c u = frees_fill 82 0 (closes_of s c s.books) u

failed_fill : (s : Session) (u : ℕ) → (failed_plan s u).fill ≡ w.Nothing
unfolding failed_plan
failed_fill s u = pick_fill s.books.wire.silent _ _ refl refl

stopped_fill : (s : Session) (u : ℕ) → (stopped_plan s u).fill ≡ w.Nothing
unfolding stopped_plan
stopped_fill s u = pick_fill s.books.wire.silent _ _ refl (pick_fill s.books.wire.running _ _ refl (give_fill s c.Clean u))

unmap_fa_fill : (s : Session) (u : ℕ) → (unmap_fa_plan s u).fill ≡ w.Nothing
unfolding unmap_fa_plan
unmap_fa_fill s u = pick_fill (is_held (fa_of s.books)) _ _ refl (stopped_fill s u)

unmap_aux_fill : (s : Session) (u : ℕ) → (unmap_aux_plan s u).fill ≡ w.Nothing
unfolding unmap_aux_plan
unmap_aux_fill s u = pick_fill (is_held (aux_of s.books)) _ _ refl (unmap_fa_fill s u)

unmap_fill : (s : Session) (i u : ℕ) → (unmap_plan s i u).fill ≡ w.Nothing
unfolding unmap_plan
unmap_fill s zero u = unmap_aux_fill s u
unmap_fill s (suc i) u = refl

close_hca_fill : (s : Session) (u : ℕ) → (close_hca_plan s u).fill ≡ w.Nothing
unfolding close_hca_plan
close_hca_fill s u = pick_fill s.books.started _ _ refl (unmap_fill s s.books.lists.ranges u)

send_fill : (s : Session) (m : ℕ) (u : Top) → (undo_send s m u).fill ≡ w.Nothing
send_fill s zero u = failed_fill s u.count
send_fill s (suc m) u = pick_fill (is_reserved u.op) _ _ (failed_fill s u.count) refl

undo_fill : (s : Session) (m : ℕ) (u : Top) → (undo_plan s m u).fill ≡ w.Nothing
unfolding undo_plan
undo_fill s m u = pick_fill (eqb u.count 0) _ _ (close_hca_fill s u.count) (send_fill s m u)

pub stop_fill : (s : Session) (u : Top) → (stop_plan s u).fill ≡ w.Nothing
unfolding stop_plan
stop_fill s u = pick_fill s.books.wire.broken _ _ refl (undo_fill s UNDOS u)

pub quiesce_fill : (s : Session) (u : Top) → (quiesce_plan s u).fill ≡ w.Nothing
unfolding quiesce_plan
quiesce_fill s u = pick_fill s.books.wire.broken _ _ refl (undo_fill (silenced_of s) UNDOS u)

pub close_fill : (st : Close) (s : Session) (y : End) (u : Top) → (close_plan s st y u).fill ≡ w.Nothing
unfolding close_plan
close_fill (k.Undo m) s y u = pick_fill (is_done (cmd_in y).result) _ _ (undo_fill (took_of s (cmd_in y)) m u) (failed_fill (took_of s (cmd_in y)) u.count)
close_fill k.CloseHca s y u = pick_fill (is_done (cmd_in y).result) _ _ (unmap_fill (took_of s (cmd_in y)) s.books.lists.ranges u.count) (failed_fill (took_of s (cmd_in y)) u.count)
close_fill (k.Unmap i) s y u = pick_fill (is_done (cmd_in y).result) _ _ (unmap_fill (took_of s (cmd_in y)) i u.count) (failed_fill (took_of s (cmd_in y)) u.count)
close_fill k.UnmapAux s y u = pick_fill (is_done (cmd_in y).result) _ _ (unmap_fa_fill (took_of s (cmd_in y)) u.count) (failed_fill (took_of s (cmd_in y)) u.count)
close_fill k.UnmapFa s y u = pick_fill (is_done (cmd_in y).result) _ _ (stopped_fill (took_of s (cmd_in y)) u.count) (failed_fill (took_of s (cmd_in y)) u.count)
close_fill k.Quiesce s y u = refl
close_fill k.Reset s y u = pick_fill (is_good (reset_in y)) _ _ (give_fill s c.Reset u.count) refl
close_fill (k.Free i) s y u = frees_fill (81 - i) (suc i) s u.count
close_fill k.Release s y u = refl
close_fill k.Restore s y u = refl
