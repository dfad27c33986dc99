-- Every state of the two machines does what is left of its script, and a start has the whole script before it.
use Prim.Native.Nat.{ℕ, ◌*◌, ◌/◌}
use mathlib.Core.Bool.{Bool, true, false}
use mathlib.Core.Path.{◌≡◌, refl, ap}
use native.Mathlib.Omega.{arith}
use lib.Dec.{eqb}
use Rattle.fields.specs.Outcome.{Outcome, value, refused, pick}
use Rattle.dma.specs.Buffers.{pages_for, accept_at}
use Rattle.dma.specs.declared.Buffer.{Buffer}
use Rattle.pci.specs.Script.{Script}
use Rattle.pci.specs.Machine.{rest, Follows}
use Rattle.pci.proofs.Cases.{handle_case, map_case, done_case}
use Rattle.buffer.specs.Buffer.{by_outcome, allocating, making, freeing}
use Rattle.buffer.specs.Steps.{allocated, map_step, unmapped, freed, make_of, make_next, make_asks, make_step, make_script, MakeFollows, start_free, free_step_at, free_next, free_asks, free_step, free_script, FreeFollows}
use Rattle.buffer.specs.declared.Made.{Made}
use Rattle.buffer.specs.declared.MakePhase.{MakePhase}
use Rattle.buffer.specs.declared.MakePhase.TheVariants as p
use Rattle.buffer.specs.declared.MakeStep.{MakeStep}
use Rattle.buffer.specs.declared.FreePhase.{FreePhase}
use Rattle.buffer.specs.declared.FreePhase.TheVariants as e

-- the script that a step leaves
abbrev pub left : MakeStep → Script Made
left x = rest make_asks make_step make_script (make_next x)

pick_left : (b : Bool) (x y : MakeStep) (p q : Script Made) → left x ≡ p → left y ≡ q → left (pick b x y) ≡ pick b p q
pick_left true x y p q g h = g
pick_left false x y p q g h = h

outcome_left : {A : Type 0} (z : Outcome A) (x : A → MakeStep) (y : MakeStep) (p : A → Script Made) (q : Script Made)
    → ((a : A) → left (x a) ≡ p a) → left y ≡ q → left (by_outcome z x y) ≡ by_outcome z p q
outcome_left (value a) x y p q g h = g a
outcome_left (refused n vs) x y p q g h = h

at_make : (n : ℕ) (x : MakePhase) → Follows make_asks make_step make_script (record { bytes = n; phase = x }) (make_script (record { bytes = n; phase = x }))
at_make n p.Allocate =
    (refl, handle_case make_asks make_step make_script _ (λ r. make_next (allocated (record { bytes = n; phase = p.Allocate }) r)) _ (λ v. refl) refl refl)
at_make n (p.Map handle) = (
  refl,
  map_case make_asks make_step make_script _ (λ r. make_next (map_step (record { bytes = n; phase = p.Map handle }) handle r)) _
      (λ v b. outcome_left (accept_at v (n / 4096)) _ _ _ _ (λ u. pick_left (eqb b (n / 4096 * 4096)) _ _ _ _ refl refl) refl) refl refl,
)
at_make n (p.Unmap handle x) =
    (refl, done_case make_asks make_step make_script _ (λ r. make_next (unmapped (record { bytes = n; phase = p.Unmap handle x }) handle x r)) _ refl refl refl)
at_make n (p.Free handle x) =
    (refl, done_case make_asks make_step make_script _ (λ r. make_next (freed (record { bytes = n; phase = p.Free handle x }) x r)) _ refl refl refl)

pub make_follows : MakeFollows
make_follows k = at_make k.bytes k.phase

whole : (n : ℕ) → n * 4096 / 4096 ≡ n
whole n = omega arith

-- a buffer that is begun has the whole script before it
pub make_starts : (bytes : ℕ) → left (make_of bytes) ≡ making bytes
make_starts bytes = outcome_left (pages_for bytes) _ _ _ _ (λ n. ap allocating (whole n)) refl

at_free : (handle n : ℕ) (x : FreePhase)
    → Follows free_asks free_step free_script (record { handle = handle; pages = n; phase = x }) (free_script (record { handle = handle; pages = n; phase = x }))
at_free handle n e.Unmap =
    (refl, done_case free_asks free_step free_script _ (λ r. free_next (free_step_at (record { handle = handle; pages = n; phase = e.Unmap }) r e.Unmap)) _ refl refl refl)
at_free handle n e.Free =
    (refl, done_case free_asks free_step free_script _ (λ r. free_next (free_step_at (record { handle = handle; pages = n; phase = e.Free }) r e.Free)) _ refl refl refl)

pub free_follows : FreeFollows
free_follows k = at_free k.handle k.pages k.phase

pub free_starts : (b : Buffer) → free_script (start_free b) ≡ freeing b.handle b.pages
free_starts b = refl
