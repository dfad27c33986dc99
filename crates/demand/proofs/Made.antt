-- A buffer that is being made: what the host has of it at each question. What is asked back of it was never usable, so an opening's closing has not begun.
use Prim.Native.Nat.{ℕ, ◌*◌}
use mathlib.Core.Bool.{Bool, true, false, ◌&&◌}
use mathlib.Core.List.{List, [], ◌∷◌}
use mathlib.Core.Option.{Option, some, none, some-injective, none-ne-some}
use mathlib.Core.Path.{◌≡◌, refl, sym, ◌∙◌, ap, subst}
use lib.Dec.{eqb}
use Rattle.std.specs.Prelude.{Result, Ok, Err}
use Rattle.fields.specs.Outcome.{Outcome, value, refused, pick}
use Rattle.dma.specs.Buffers.{is_page, ends_within}
use Rattle.dma.specs.declared.Buffer.{Buffer}
use Rattle.pci.specs.Script.{Ask, Reply, Bus, good, failed, Spot, reply_of, as_bus, as_spot, allocate, mapped, unmap, free}
use Rattle.pci.specs.Views.{done_of, granted_of, mapped_of}
use Rattle.pci.specs.declared.Answer.{Answer}
use Rattle.pci.specs.declared.NoReply.{NoReply}
use Rattle.pci.specs.declared.NoReply.TheVariants.{Failed, Wrong}
use Rattle.reset.specs.declared.Reset.{Reset}
use Rattle.buffer.specs.Buffer.{by_outcome}
use Rattle.buffer.specs.Steps.{pages_in, in_phase, make_asks_at, make_step_at, allocated, map_step, unmapped, freed}
use Rattle.buffer.specs.declared.Fault.{Fault}
use Rattle.buffer.specs.declared.Fault.TheVariants as f
use Rattle.buffer.specs.declared.Made.TheVariants as m
use Rattle.buffer.specs.declared.MakePhase.{MakePhase}
use Rattle.buffer.specs.declared.MakePhase.TheVariants as p
use Rattle.buffer.specs.declared.Making.{Making}
use Rattle.buffer.specs.declared.MakeStep.TheVariants as ms
use Rattle.uar.specs.declared.FindBar.{FindBar}
use Rattle.work.specs.Work.{task_asks, work_step_of, task_step, make_work}
use Rattle.work.specs.declared.Task.{Task}
use Rattle.work.specs.declared.Task.TheVariants as t
use Rattle.work.specs.declared.Work.{Work}
use Rattle.card.specs.Card.{Hold, Host, HostStep, HostAllocates, HostMaps, map_at, unmap_all, map_in, unmap_in, hand_out}
use Rattle.card.proofs.Owns.{put_same}
use Rattle.demand.specs.Events.{asked, was_usable, asks_back}
use Rattle.demand.proofs.Plans.{NoHost, StartsAt, Starts, task_going}
use Rattle.demand.proofs.Questions.{Leaves, task_leaves}

abbrev MakesAt : (pages : ℕ) → MakePhase → Host → Type 0
MakesAt n p.Allocate k = Unit {0}
MakesAt n (p.Map b) k = k.hand b ≡ some (record { pages = n; mapped = []; unmapped = [] })
MakesAt n (p.Unmap b x) k = was_usable (k.hand b) ≡ false
MakesAt n (p.Free b x) k = was_usable (k.hand b) ≡ false

abbrev pub Makes : Task → Host → Type 0
Makes t.Rest k = Unit {0}
Makes (t.Attr x) k = Unit {0}
Makes (t.Claim x) k = Unit {0}
Makes t.Reset k = Unit {0}
Makes t.Bar k = Unit {0}
Makes (t.Make x) k = MakesAt (pages_in x) x.phase k
Makes (t.Free x) k = ⊥
Makes t.Look k = Unit {0}
Makes (t.Cmd x) k = Unit {0}
Makes (t.Part x) k = Unit {0}

-- a task at its start
starts_at : (n : ℕ) (x : MakePhase) (k : Host) → StartsAt x → MakesAt n x k
starts_at n p.Allocate k e = tt
starts_at n (p.Map b) k e = absurd e
starts_at n (p.Unmap b x) k e = absurd e
starts_at n (p.Free b x) k e = absurd e

pub starts_makes : (x : Task) (k : Host) → Starts x → Makes x k
starts_makes t.Rest k e = tt
starts_makes (t.Attr x) k e = tt
starts_makes (t.Claim x) k e = tt
starts_makes t.Reset k e = tt
starts_makes t.Bar k e = tt
starts_makes (t.Make x) k e = starts_at (pages_in x) x.phase k e
starts_makes (t.Free x) k e = absurd e
starts_makes t.Look k e = tt
starts_makes (t.Cmd x) k e = tt
starts_makes (t.Part x) k e = tt

-- and one that asks nothing of the host
no_host : (x : Task) (k : Host) → NoHost x → Makes x k
no_host t.Rest k e = tt
no_host (t.Attr x) k e = tt
no_host (t.Claim x) k e = tt
no_host t.Reset k e = tt
no_host t.Bar k e = tt
no_host (t.Make x) k e = absurd e
no_host (t.Free x) k e = absurd e
no_host t.Look k e = tt
no_host (t.Cmd x) k e = tt
no_host (t.Part x) k e = tt

-- an unmap leaves what can be said of the addresses
unmap_usable : (x : Option Hold) → was_usable (unmap_all x) ≡ was_usable x
unmap_usable none = refl
unmap_usable (some x) = refl

module _ (w : Work) (y : Making) (k l : Host) where
  granted : (x : Result ℕ NoReply) (r : Bus ℕ) → as_bus x ≡ some r → HostAllocates k (pages_in y) r l → Makes (make_work w (allocated y x)).work.task l
  granted (Ok b) r e s =
      let z = subst (λ (q : Bus ℕ). HostAllocates k (pages_in y) q l) (sym (some-injective (good b) r e)) s in
      ap (λ (q : Host). q.hand b) z.1 ∙ put_same k.hand b (some (record { pages = pages_in y; mapped = []; unmapped = [] })) b refl
  granted (Err Failed) r e s = tt
  granted (Err Wrong) r e s = absurd (none-ne-some r e)

  -- a good map: usable, or it is unmapped
  spot_made : (b : ℕ) (u : Buffer) (v z : Bool) → was_usable (l.hand b) ≡ pick (v && z) true false
      → Makes (make_work w (by_outcome (pick {A = Outcome (Unit {0})} v (value tt) (refused 18 [])) (λ q. pick z (ms.Ended (m.Ready u)) (ms.More (in_phase y (p.Unmap b f.Memory)))) (ms.More (in_phase y (p.Unmap b f.Address))))).work.task l
  spot_made b u true true e = tt
  spot_made b u true false e = e
  spot_made b u false z e = e

  placed : (b : ℕ) (x : Result (ℕ × ℕ) NoReply) (r : Bus Spot) → k.hand b ≡ some (record { pages = pages_in y; mapped = []; unmapped = [] }) → as_spot x ≡ some r → HostMaps k b r l → Makes (make_work w (map_step y b x)).work.task l
  placed b (Ok (address, bytes)) r q e s =
      let spot : Spot = record { address = address; bytes = bytes } in
      let z = subst (λ (v : Bus Spot). HostMaps k b v l) (sym (some-injective (good spot) r e)) s in
      spot_made b _ (is_page address && ends_within address (pages_in y * 4096)) (eqb bytes (pages_in y * 4096))
      (ap (λ (v : Host). was_usable (v.hand b)) z.1 ∙ ap was_usable (put_same k.hand b (map_at spot (k.hand b)) b refl ∙ ap (map_at spot) q))
  placed b (Err Failed) r q e s =
      let z = subst (λ (v : Bus Spot). HostMaps k b v l) (sym (some-injective failed r e)) s in
      ap (λ (v : Host). was_usable (v.hand b)) z ∙ ap was_usable q
  placed b (Err Wrong) r q e s = absurd (none-ne-some r e)

  unplaced : (b : ℕ) (u : Fault) (x : Result (Unit {0}) NoReply) (r : Bus (Unit {0})) → was_usable (k.hand b) ≡ false → as_bus x ≡ some r → l ≡ unmap_in k b → Makes (make_work w (unmapped y b u x)).work.task l
  unplaced b u (Ok _) r q e s = ap (λ (v : Host). was_usable (v.hand b)) s ∙ ap was_usable (put_same k.hand b (unmap_all (k.hand b)) b refl) ∙ unmap_usable (k.hand b) ∙ q
  unplaced b u (Err Failed) r q e s = ap (λ (v : Host). was_usable (v.hand b)) s ∙ ap was_usable (put_same k.hand b (unmap_all (k.hand b)) b refl) ∙ unmap_usable (k.hand b) ∙ q
  unplaced b u (Err Wrong) r q e s = absurd (none-ne-some r e)

  given : (u : Fault) (x : Result (Unit {0}) NoReply) (r : Bus (Unit {0})) → as_bus x ≡ some r → Makes (make_work w (freed y u x)).work.task l
  given u (Ok _) r e = tt
  given u (Err Failed) r e = tt
  given u (Err Wrong) r e = absurd (none-ne-some r e)

-- ONE ANSWER in an opening
abbrev pub Unasked : Host → Host → Answer → List ℕ → Task → Ask → Type 0
Unasked k l a res x q = (r : Reply q) → reply_of q a res ≡ some r → HostStep k q r l → (asks_back k q ≡ false) × Makes x l

abbrev at : ℕ → MakePhase → Making
at n x = record { bytes = n; phase = x }

by_phase : (w : Work) (n : ℕ) (x : MakePhase) (a : Answer) (res i : List ℕ) (q : Ask) (k l : Host) → Makes (t.Make (at n x)) k → asked (make_asks_at (pages_in (at n x)) x) i ≡ some q
    → Unasked k l a res (make_work w (make_step_at (at n x) a x)).work.task q
by_phase w n p.Allocate a res i q k l h e =
    subst (Unasked k l a res (make_work w (make_step_at (at n p.Allocate) a p.Allocate)).work.task) (some-injective _ q e) (λ r d s. (refl, granted w (at n p.Allocate) k l (granted_of a) r d s))
by_phase w n (p.Map b) a res i q k l h e =
    subst (Unasked k l a res (make_work w (make_step_at (at n (p.Map b)) a (p.Map b))).work.task) (some-injective _ q e) (λ r d s. (refl, placed w (at n (p.Map b)) k l b (mapped_of a) r h d s))
by_phase w n (p.Unmap b u) a res i q k l h e =
    subst (Unasked k l a res (make_work w (make_step_at (at n (p.Unmap b u)) a (p.Unmap b u))).work.task) (some-injective _ q e) (λ r d s. (h, unplaced w (at n (p.Unmap b u)) k l b u (done_of a) r h d s))
by_phase w n (p.Free b u) a res i q k l h e =
    subst (Unasked k l a res (make_work w (make_step_at (at n (p.Free b u)) a (p.Free b u))).work.task) (some-injective _ q e) (λ r d s. (h, given w (at n (p.Free b u)) k l u (done_of a) r d))

module _ (w : Work) (a : Answer) (res i : List ℕ) (q : Ask) (k l : Host) where
  none_asked : (x : Task) → NoHost x → asked (task_asks w.reset w.find x) i ≡ some q → Unasked k l a res (task_step w a res x).work.task q
  none_asked x n e r d s = ((task_leaves w.reset w.find x i q k l n e).0, no_host (task_step w a res x).work.task l (task_going w a res x n))

  by_task : (x : Task) → Makes x k → asked (task_asks w.reset w.find x) i ≡ some q → Unasked k l a res (task_step w a res x).work.task q
  by_task t.Rest h e = none_asked t.Rest tt e
  by_task (t.Attr x) h e = none_asked (t.Attr x) tt e
  by_task (t.Claim x) h e = none_asked (t.Claim x) tt e
  by_task t.Reset h e = none_asked t.Reset tt e
  by_task t.Bar h e = none_asked t.Bar tt e
  by_task (t.Make x) h e = by_phase w x.bytes x.phase a res i q k l h e
  by_task (t.Free x) h e = absurd h
  by_task t.Look h e = none_asked t.Look tt e
  by_task (t.Cmd x) h e = none_asked (t.Cmd x) tt e
  by_task (t.Part x) h e = none_asked (t.Part x) tt e

pub unasked : (w : Work) (a : Answer) (res i : List ℕ) (q : Ask) (r : Reply q) (k l : Host) → Makes w.task k → asked (task_asks w.reset w.find w.task) i ≡ some q → reply_of q a res ≡ some r → HostStep k q r l
    → (asks_back k q ≡ false) × Makes (work_step_of w a res).work.task l
unasked w a res i q r k l h e d s = by_task w a res i q k l w.task h e r d s
