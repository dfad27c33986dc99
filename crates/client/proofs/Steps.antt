-- Each step of an undo that a client calls for, by what it tests.
use Prim.Native.Nat.{ℕ}
use mathlib.Core.Bool.{true, false}
use mathlib.Core.Path.{◌≡◌}
use lib.Dec.{leb}
use Rattle.pci.specs.declared.Refusal.TheVariants as x
use Rattle.command.specs.declared.CmdEnd.{CmdEnd}
use Rattle.session.specs.Session.{took_of, breaks_of}
use Rattle.session.specs.declared.Top.{Top}
use Rattle.session.specs.declared.Gave.TheVariants as v
use Rattle.session.specs.declared.Session.{Session}
use Rattle.closing_plan.specs.Closing.{is_done}
use Rattle.client_plan.specs.Plan.{rest_plan, undo_send, undo_plan, undo_ended}

module _ (s : Session) (mark m : ℕ) (u : Top) where
  pub undo_over : leb u.count mark ≡ true → rest_plan s v.Nothing u.count ≡ undo_plan s mark m u
  unfolding undo_plan
  undo_over h = simp h

  pub undo_broken : leb u.count mark ≡ false → s.books.wire.broken ≡ true → rest_plan s (v.Failed x.Undo) u.count ≡ undo_plan s mark m u
  unfolding undo_plan
  undo_broken h k = simp (h, k)

  pub undo_left : leb u.count mark ≡ false → s.books.wire.broken ≡ false → undo_send s mark m u ≡ undo_plan s mark m u
  unfolding undo_plan
  undo_left h k = simp (h, k)

module _ (s : Session) (mark m : ℕ) (e : CmdEnd) (u : Top) where
  pub undone_good : is_done e.result ≡ true → undo_plan (took_of s e) mark m u ≡ undo_ended s mark m e u
  undone_good h = simp h

  pub undone_bad : is_done e.result ≡ false → rest_plan (breaks_of (took_of s e)) (v.Failed x.Undo) u.count ≡ undo_ended s mark m e u
  undone_bad h = simp h
