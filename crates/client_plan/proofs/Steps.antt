-- One step of a plan that counts down, and of a lending.
use Prim.Native.Nat.{ℕ, zero, suc, ◌*◌, ◌-◌}
use mathlib.Core.Path.{◌≡◌, refl, ap}
use native.Mathlib.Omega.{arith}
use Rattle.fields.specs.Outcome.{Outcome, value, refused, pick}
use Rattle.dma.specs.Buffers.{pages_for}
use Rattle.hcr.specs.Words.{is_reserved}
use Rattle.pci.specs.declared.Refusal.TheVariants as x
use Rattle.buffer.specs.Buffer.{by_outcome}
use Rattle.buffer.specs.Steps.{make_of}
use Rattle.buffer.specs.declared.Fault.TheVariants as q
use Rattle.buffer.specs.declared.Made.TheVariants as m
use Rattle.buffer.specs.declared.MakePhase.TheVariants as mp
use Rattle.buffer.specs.declared.MakeStep.{MakeStep}
use Rattle.buffer.specs.declared.MakeStep.TheVariants as ms
use Rattle.work.specs.declared.Task.TheVariants as t
use Rattle.session.specs.Session.{starts, sends_of, breaks_of, planned}
use Rattle.session.specs.declared.Top.{Top}
use Rattle.session.specs.declared.Gave.TheVariants as v
use Rattle.session.specs.declared.Client.TheVariants as k
use Rattle.session.specs.declared.Stage.TheVariants as g
use Rattle.session.specs.declared.Fill.TheVariants as w
use Rattle.session.specs.declared.Session.{Session}
use Rattle.session.specs.declared.Planned.{Planned}
use Rattle.closing_plan.specs.Closing.{undo_post, popped}
use Rattle.client_plan.specs.Plan.{rest_plan, lend_plan, undo_send}

pub undo_none : (s : Session) (mark m : ℕ) (u : Top) → m ≡ 0 → undo_send s mark m u ≡ rest_plan (breaks_of s) (v.Failed x.Undo) u.count
undo_none s mark zero u h = refl
undo_none s mark (suc m) u h = absurd (let g : suc m ≡ 0 = h in let z : ⊥ = omega arith in z)

pub undo_more : (s : Session) (mark m : ℕ) (u : Top) → (m ≡ 0 → ⊥)
    → undo_send s mark m u ≡ pick (is_reserved u.op) (rest_plan s (v.Failed x.Opcode) u.count) (planned (sends_of s (g.Client (k.UndoTo mark (m - 1))) (undo_post u)) w.Nothing (popped u).count)
undo_more s mark zero u h = absurd (h refl)
undo_more s mark (suc m) u h =
    ap (λ (j : ℕ). pick (is_reserved u.op) (rest_plan s (v.Failed x.Opcode) u.count) (planned (sends_of s (g.Client (k.UndoTo mark j)) (undo_post u)) w.Nothing (popped u).count))
    (let e : m ≡ suc m - 1 = omega arith in e)

-- the making has begun, or is refused before any question
abbrev pub lend_by : Session → MakeStep → ℕ → Planned
lend_by s (ms.More y) u = planned (starts s (g.Client (k.Lend s.books.lists.lends)) (t.Make y)) w.Nothing u
lend_by s (ms.Ended y) u = rest_plan s (v.Failed x.Address) u

pub lend_by_lem : (s : Session) (bytes u : ℕ) → lend_plan s bytes u ≡ lend_by s (make_of bytes) u
unfolding lend_plan
lend_by_lem s bytes u = by_pages (pages_for bytes)
  where
    by_pages : (y : Outcome ℕ) → by_outcome y (λ n. planned (starts s (g.Client (k.Lend s.books.lists.lends)) (t.Make (record { bytes = n * 4096; phase = mp.Allocate }))) w.Nothing u) (rest_plan s (v.Failed x.Address) u)
        ≡ lend_by s (by_outcome y (λ n. ms.More (record { bytes = n * 4096; phase = mp.Allocate })) (ms.Ended (m.Refused q.Address))) u
    by_pages (value n) = refl
    by_pages (refused i vs) = refl
