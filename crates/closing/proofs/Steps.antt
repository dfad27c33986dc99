-- Each step of a closing and of a quiesce, by what it tests.
use Prim.Native.Nat.{ℕ}
use mathlib.Core.Bool.{true, false}
use mathlib.Core.Path.{◌≡◌}
use lib.Dec.{eqb}
use Rattle.command.specs.declared.CmdEnd.{CmdEnd}
use Rattle.reset.specs.Reset.{is_good}
use Rattle.reset.specs.declared.ResetEnd.{ResetEnd}
use Rattle.session.specs.Session.{is_held, fa_of, aux_of, silenced_of}
use Rattle.session.specs.declared.Top.{Top}
use Rattle.session.specs.declared.Close.TheVariants as k
use Rattle.session.specs.declared.Closing.TheVariants as c
use Rattle.session.specs.declared.Session.{Session}
use Rattle.session.specs.declared.Planned.{Planned}
use Rattle.closing_plan.specs.Closing.{is_done, UNDOS}
use Rattle.closing_plan.specs.Plan.{quiet_plan, reset_plan, give_plan, release_plan, closes_of, failed_plan, stopped_plan, send_plan, unmap_fa_plan, unmap_aux_plan, unmap_plan}
use Rattle.closing_plan.specs.Plan.{close_hca_plan, undo_send, undo_plan, stop_plan, quiesce_plan, onward_plan, was_reset}

module _ (s : Session) (u : ℕ) where
  pub failed_quiet : s.books.wire.silent ≡ true → quiet_plan s u ≡ failed_plan s u
  unfolding failed_plan
  failed_quiet h = simp h

  pub failed_reset : s.books.wire.silent ≡ false → reset_plan s u ≡ failed_plan s u
  unfolding failed_plan
  failed_reset h = simp h

  pub stopped_quiet : s.books.wire.silent ≡ true → quiet_plan s u ≡ stopped_plan s u
  unfolding stopped_plan
  stopped_quiet h = simp h

  pub stopped_reset : s.books.wire.silent ≡ false → s.books.wire.running ≡ true → reset_plan s u ≡ stopped_plan s u
  unfolding stopped_plan
  stopped_reset h k = simp (h, k)

  pub stopped_give : s.books.wire.silent ≡ false → s.books.wire.running ≡ false → give_plan s c.Clean u ≡ stopped_plan s u
  unfolding stopped_plan
  stopped_give h k = simp (h, k)

  pub fa_held : is_held (fa_of s.books) ≡ true → send_plan s k.UnmapFa 0xffe 0 0 u ≡ unmap_fa_plan s u
  unfolding unmap_fa_plan
  fa_held h = simp h

  pub fa_none : is_held (fa_of s.books) ≡ false → stopped_plan s u ≡ unmap_fa_plan s u
  unfolding unmap_fa_plan
  fa_none h = simp h

  pub aux_held : is_held (aux_of s.books) ≡ true → send_plan s k.UnmapAux 0xffb 0 0 u ≡ unmap_aux_plan s u
  unfolding unmap_aux_plan
  aux_held h = simp h

  pub aux_none : is_held (aux_of s.books) ≡ false → unmap_fa_plan s u ≡ unmap_aux_plan s u
  unfolding unmap_aux_plan
  aux_none h = simp h

  pub hca_started : s.books.started ≡ true → send_plan s k.CloseHca 0x008 0 0 u ≡ close_hca_plan s u
  unfolding close_hca_plan
  hca_started h = simp h

  pub hca_not : s.books.started ≡ false → unmap_plan s s.books.lists.ranges u ≡ close_hca_plan s u
  unfolding close_hca_plan
  hca_not h = simp h

  pub reset_good : (x : ResetEnd) → is_good x ≡ true → give_plan s c.Reset u ≡ was_reset s x u
  reset_good x h = simp h

  pub reset_bad : (x : ResetEnd) → is_good x ≡ false → release_plan (closes_of s c.Kept s.books) u ≡ was_reset s x u
  reset_bad x h = simp h

module _ (s : Session) (u : Top) where
  pub undo_over : (m : ℕ) → eqb u.count 0 ≡ true → close_hca_plan s u.count ≡ undo_plan s m u
  unfolding undo_plan
  undo_over m h = simp h

  pub undo_left : (m : ℕ) → eqb u.count 0 ≡ false → undo_send s m u ≡ undo_plan s m u
  unfolding undo_plan
  undo_left m h = simp h

  pub stop_reset : s.books.wire.broken ≡ true → reset_plan s u.count ≡ stop_plan s u
  unfolding stop_plan
  stop_reset h = simp h

  pub stop_undo : s.books.wire.broken ≡ false → undo_plan s UNDOS u ≡ stop_plan s u
  unfolding stop_plan
  stop_undo h = simp h

  pub quiesce_quiet : s.books.wire.broken ≡ true → quiet_plan (silenced_of s) u.count ≡ quiesce_plan s u
  unfolding quiesce_plan
  quiesce_quiet h = simp h

  pub quiesce_undo : s.books.wire.broken ≡ false → undo_plan (silenced_of s) UNDOS u ≡ quiesce_plan s u
  unfolding quiesce_plan
  quiesce_undo h = simp h

module _ (x : CmdEnd) (next bad : Planned) where
  pub onward_good : is_done x.result ≡ true → next ≡ onward_plan x next bad
  onward_good h = simp h

  pub onward_bad : is_done x.result ≡ false → bad ≡ onward_plan x next bad
  onward_bad h = simp h
