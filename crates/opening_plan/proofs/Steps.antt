-- A buffer's making, begun or refused before any question.
use Prim.Native.Nat.{ℕ, ◌*◌, ◌≤◌, ◌<◌, ◌^◌, ◌-◌}
use mathlib.Core.Path.{◌≡◌, refl}
use native.Mathlib.Omega.{arith}
use borrow.Author.Tests.{lt-leb}
use Rattle.fields.specs.Outcome.{Outcome, value, refused}
use Rattle.dma.specs.Buffers.{pages_for}
use Rattle.pci.specs.declared.Refusal.TheVariants as x
use Rattle.buffer.specs.Buffer.{by_outcome}
use Rattle.buffer.specs.Steps.{make_of}
use Rattle.buffer.specs.declared.Fault.TheVariants as q
use Rattle.buffer.specs.declared.Made.TheVariants as m
use Rattle.buffer.specs.declared.MakePhase.TheVariants as mp
use Rattle.buffer.specs.declared.MakeStep.TheVariants as ms
use Rattle.work.specs.declared.Task.TheVariants as t
use Rattle.session.specs.Session.{starts, planned}
use Rattle.session.specs.declared.Top.{Top}
use Rattle.session.specs.declared.Area.{Area}
use Rattle.session.specs.declared.Stage.TheVariants as g
use Rattle.session.specs.declared.Boot.TheVariants as k
use Rattle.session.specs.declared.Fill.TheVariants as w
use Rattle.session.specs.declared.Session.{Session}
use Rattle.opening_plan.specs.Plan.{make_plan, make_by, fail_plan}

pub make_by_lem : (s : Session) (a : Area) (bytes : ℕ) (top : Top) → make_plan s a bytes top ≡ make_by s a (make_of bytes) top
unfolding make_plan
make_by_lem s a bytes top = by_pages (pages_for bytes)
  where
    by_pages : (v : Outcome ℕ) → by_outcome v (λ n. planned (starts s (g.Boot (k.Make a)) (t.Make (record { bytes = n * 4096; phase = mp.Allocate }))) w.Nothing top.count) (fail_plan s x.Address top)
        ≡ make_by s a (by_outcome v (λ n. ms.More (record { bytes = n * 4096; phase = mp.Allocate })) (ms.Ended (m.Refused q.Address))) top
    by_pages (value n) = refl
    by_pages (refused i vs) = refl

-- 2^52 pages or more are 18
pub make_many : (s : Session) (a : Area) (pages : ℕ) (top : Top) → 4503599627370496 ≤ pages → make_plan s a (pages * 4096) top ≡ fail_plan s x.Address top
unfolding make_plan
make_many s a pages top h = rw (lt-leb (pages * 4096) (2 ^ 64 - 4096) (let l : 2 ^ 64 - 4096 < pages * 4096 = omega arith in l)) refl
