-- Scripts that change nothing: they read, stall, and touch the configuration space. The claim, the attributes, the search for a BAR, the first look at the status dword;
-- and the parting, which writes the owner's register beside.
use Rattle.std.specs.Prelude.{Option, None, Ok}
use Prim.Native.Nat.{ℕ, zero, suc, ◌<◌, ◌^◌}
use native.Mathlib.Omega.{arith}
use mathlib.Core.Bool.{Bool, true, false, false≢true}
use mathlib.Core.List.{List, [], ◌∷◌}
use mathlib.Core.Logic.{⊎_elim}
use mathlib.Core.Path.{◌≡◌, ◌∙◌}
use lib.Dec.{eqb}
use lib.ListN.{set, replicate}
use borrow.Author.Tests.{eq-eqb}
use Rattle.fields.specs.Outcome.{value, refused, pick}
use Rattle.pci.specs.Script.{Script, ret, ask, Ask, Reply, Bus, good, failed, config_read16, config_read32, config_write16, config_write32, read, write, attributes, resource, stall, allocate, mapped, unmap, free, fence}
use Rattle.bars.specs.Bars.{base_of, count_of}
use Rattle.bars.specs.Choose.{has_base, others_from}
use Rattle.bars.specs.Steps.{settled_of}
use Rattle.bars.specs.declared.Pick.{Pick}
use Rattle.bars.specs.declared.Candidate.{Candidate}
use Rattle.bars.specs.Resource.{Answer as Listed, resource_at}
use Rattle.bars.specs.declared.BarRange.{BarRange}
use Rattle.tasks.specs.Attributes.{or_refused, supporting, attributing}
use Rattle.tasks.specs.declared.Attributes.{Attributes}
use Rattle.tasks.specs.Claim.{on_owner, claiming}
use Rattle.tasks.specs.Claim as k
use Rattle.tasks.specs.Parting.{on_disown, releasing, restoring, quieting, commanding, on_command}
use Rattle.uar.specs.Uar as u
use Rattle.uar.specs.Uar.{Found}
use Rattle.bars.specs.declared.How.TheVariants as how
use Rattle.bars.specs.Steps.{pick_of}
use Rattle.work.specs.Work.{looking}
use Rattle.card.specs.Card.{Card, Settles, Takes, take, store, Host, World, WorldStep, Allowed}
use Rattle.card.specs.Safe.{Safe}
use Rattle.card.specs.Known.{Stable}

abbrev pub Still : Ask → Type 0
Still (config_read16 o) = Unit {0}
Still (config_read32 o) = Unit {0}
Still (config_write16 o v) = Unit {0}
Still (config_write32 o v) = Unit {0}
Still (read b o) = Unit {0}
Still (write b o v) = ⊥
Still (attributes o v) = Unit {0}
Still (resource b) = Unit {0}
Still (stall t) = Unit {0}
Still (allocate n) = ⊥
Still (mapped h n) = ⊥
Still (unmap h) = ⊥
Still (free h n) = ⊥
Still (fence m) = ⊥

abbrev pub Stills : {R : Type 0} → Script R → Type 0
Stills (ret r) = Unit {0}
Stills (ask q k) = Still q × ((r : Reply q) → Stills (k r))

pub stills_pick : {A : Type 0} (b : Bool) (x y : Script A) → Stills x → Stills y → Stills (pick b x y)
stills_pick true x y h k = h
stills_pick false x y h k = k

pub still_allowed : (q : Ask) (i : List ℕ) (w : World) → Still q → Allowed i w q
still_allowed (config_read16 o) i w h = tt
still_allowed (config_read32 o) i w h = tt
still_allowed (config_write16 o v) i w h = tt
still_allowed (config_write32 o v) i w h = tt
still_allowed (read b o) i w h = tt
still_allowed (attributes o v) i w h = tt
still_allowed (resource b) i w h = tt
still_allowed (stall t) i w h = tt
still_allowed (write bar offset _) i w h = elim h [ ]
still_allowed (allocate pages) i w h = elim h [ ]
still_allowed (mapped handle bytes) i w h = elim h [ ]
still_allowed (unmap handle) i w h = elim h [ ]
still_allowed (free handle pages) i w h = elim h [ ]
still_allowed (fence inbox) i w h = elim h [ ]

pub still_step : (q : Ask) (r : Reply q) (w v : World) → Still q → WorldStep w q r v → Settles w.card v.card × (v.host ≡ w.host)
still_step (config_read16 o) r w v h st = st
still_step (config_read32 o) r w v h st = st
still_step (config_write16 o x) r w v h st = st
still_step (config_write32 o x) r w v h st = st
still_step (read b o) (good x) w v h st = (st.0.0, st.1)
still_step (read b o) failed w v h st = st
still_step (attributes o x) r w v h st = st
still_step (resource b) r w v h st = st
still_step (stall t) r w v h st = st
still_step (write bar offset _) r w v h st = elim h [ ]
still_step (allocate pages) r w v h st = elim h [ ]
still_step (mapped handle bytes) r w v h st = elim h [ ]
still_step (unmap handle) r w v h st = elim h [ ]
still_step (free handle pages) r w v h st = elim h [ ]
still_step (fence inbox) r w v h st = elim h [ ]

pub safe_still : {R : Type 0} (i : List ℕ) (t : Script R) (I : Card → Type 1) (l : Host) (w : World) → Stills t → Stable I → w.host ≡ l → I w.card
    → Safe i w t (λ v r. (v.host ≡ l) × I v.card)
safe_still i (ret r) I l w h stable e j = (e, j)
safe_still i (ask q k) I l w h stable e j = (
  still_allowed q i w h.0,
  λ r v st.
      let s = still_step q r w v h.0 st in
      safe_still i (k r) I l v (h.1 r) stable (s.1 ∙ e) (stable w.card v.card s.0 j),
)

-- ATTRIBUTES
or_refused_lem : (f : ℕ → Script Attributes) → ((v : ℕ) → Stills (f v)) → (r : Bus ℕ) → Stills (or_refused f r)
or_refused_lem f h (good v) = h v
or_refused_lem f h failed = tt

pub attributing_still : Stills attributing
attributing_still = (tt, or_refused_lem supporting (λ v. (tt, λ y. (tt, or_refused_lem _ (λ x. tt)))))

-- THE CLAIM
owner_still : (r : Bus ℕ) → Stills (on_owner r)
owner_still (good v) = stills_pick (eqb v 0) _ _ tt tt
owner_still failed = tt

command_still : (r : Bus ℕ) → Stills (k.on_command r)
command_still (good v) = (tt, λ x. (tt, owner_still))
command_still failed = (tt, owner_still)

pub claiming_still : Stills claiming
claiming_still = (tt, command_still)

-- THE UAR BAR: a bad list asks nothing more
list_still : (k : Option BarRange → Script Found) → ((a : Option BarRange) → Stills (k a)) → (x : Listed) → Stills (u.on_list k x)
list_still k h (value r) = h (u.range_from r)
list_still k h (refused n vs) = tt

told_still : (k : Option BarRange → Script Found) → ((a : Option BarRange) → Stills (k a)) → (r : Bus (List ℕ)) → Stills (u.on_told k r)
told_still k h (good bytes) = list_still k h (resource_at bytes)
told_still k h failed = h None

other_still : (base i : ℕ) (next : Script Found) → Stills next → Stills (u.other base i next)
other_still base i next h = (tt, told_still _ (λ a. stills_pick (has_base base a) (ret (Ok (pick_of (u.candidate i a) how.Scan))) next tt h))

scan_still : (base : ℕ) (p : Pick) (is : List ℕ) → Stills (u.scan base p is)
unfolding u.scan
scan_still base p [] = tt
scan_still base p (i ∷ is) = other_still base i (u.scan base p is) (scan_still base p is)

judging_still : (base : ℕ) (x y : Candidate) → Stills (u.judging base x y)
judging_still base x y =
    stills_pick (eqb base 0) _ _ tt
    (stills_pick (has_base base x.answer) _ _ tt
    (stills_pick (has_base base y.answer) _ _ tt (scan_still base (settled_of x y) (others_from x.index y.index 0))))

choosing_still : (base i : ℕ) (y : Candidate) → Stills (u.choosing base i y)
choosing_still base i y = (
  tt,
  told_still _ (λ a. stills_pick (eqb i y.index) (u.judging base (u.candidate i a) y) (u.second base (u.candidate i a) y.index) (judging_still base (u.candidate i a) y)
      (tt, told_still _ (λ c. judging_still base (u.candidate i a) (u.candidate y.index c)))),
)

or_found : (f : ℕ → Script Found) → ((v : ℕ) → Stills (f v)) → (r : Bus ℕ) → Stills (u.or_refused f r)
or_found f h (good v) = h v
or_found f h failed = tt

reading_still : (n : ℕ) (ds : List ℕ) → Stills (u.reading n ds)
unfolding u.reading
reading_still zero ds = choosing_still (base_of ds 2) 2 (u.candidate (count_of ds 2) None)
reading_still (suc n) ds = (tt, or_found _ (λ v. reading_still n (set ds (u.dword_at n) v)))

pub finding_still : Stills u.finding
finding_still = reading_still 6 (replicate 6 0)

-- THE FIRST LOOK
pub looking_still : Stills looking
looking_still = (tt, λ r. tt)

-- THE PARTING: the owner's register is written, which is stored like any other
pub restoring_still : (v : ℕ) → Stills (restoring v)
restoring_still v = (tt, λ r. tt)

word_still : (r : Bus ℕ) → Stills (on_command r)
word_still (good v) = (tt, λ x. tt)
word_still failed = tt

commanding_still : Stills commanding
commanding_still = (tt, word_still)

module _ (i : List ℕ) (I : Card → Type 1) (l : Host) (stable : Stable I) (stores : (c : Card) (o v : ℕ) → I c → I (store c o v)) where
  pub safe_releasing : (w : World) → w.host ≡ l → I w.card → Safe i w releasing (λ v r. (v.host ≡ l) × I v.card)
  safe_releasing w e j = ((let g : 0 < 2 ^ 32 = omega arith in g, λ _ z. absurd (false≢true (eq-eqb 0x8069c 0x80698 z))), at)
    where
      taken : (d : Card) → Takes w.card 0 0x8069c 0 d → I d
      taken d st = stable (take st.0 0 0x8069c 0) d st.2 (stores st.0 0x8069c 0 (stable w.card st.0 st.1 j))

      at : (r : Bus (Unit {0})) (v : World) → WorldStep w (write 0 0x8069c 0) r v → Safe i v (on_disown r) (λ u s. (u.host ≡ l) × I u.card)
      at (good x) v st = (tt, λ r u tick. (tick.1 ∙ st.1 ∙ e, stable v.card u.card tick.0 (taken v.card st.0)))
      at failed v st = (st.1 ∙ e, ⊎_elim (λ s. stable w.card v.card s j) (λ s. taken v.card s) st.0)

  -- a quiesce ends: the owner's register, then the command word
  pub safe_quieting : (w : World) → w.host ≡ l → I w.card → Safe i w quieting (λ v r. (v.host ≡ l) × I v.card)
  safe_quieting w e j = ((let g : 0 < 2 ^ 32 = omega arith in g, λ _ z. absurd (false≢true (eq-eqb 0x8069c 0x80698 z))), at)
    where
      taken : (d : Card) → Takes w.card 0 0x8069c 0 d → I d
      taken d st = stable (take st.0 0 0x8069c 0) d st.2 (stores st.0 0x8069c 0 (stable w.card st.0 st.1 j))

      at : (r : Bus (Unit {0})) (v : World) → WorldStep w (write 0 0x8069c 0) r v → Safe i v commanding (λ u s. (u.host ≡ l) × I u.card)
      at (good x) v st = safe_still i commanding I l v commanding_still stable (st.1 ∙ e) (taken v.card st.0)
      at failed v st = safe_still i commanding I l v commanding_still stable (st.1 ∙ e) (⊎_elim (λ s. stable w.card v.card s j) (λ s. taken v.card s) st.0)
