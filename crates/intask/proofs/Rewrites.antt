-- What a step leaves behind the head: a reset's task the reset, the search's task the search, any other task both.
use Rattle.std.specs.Prelude.{Option, Some, None}
use Prim.Native.Nat.{ℕ}
use mathlib.Core.Bool.{true}
use mathlib.Core.Path.{◌≡◌, refl, ap, sym, subst, ◌∙◌}
use mathlib.Core.List.{List}
use Rattle.std.specs.Prelude.{Result, Ok, Err}
use Rattle.words.specs.Places.{reset_at, find_at}
use Rattle.words_beside.specs.Coding.{reset_words, find_words}
use Rattle.words_beside.specs.Fits.{ResetFits, FindFits}
use Rattle.words_laws.specs.Kept.{Rewrites}
use Rattle.words_laws.proofs.Rewrites.{rewrites_none, rewrites_reset, rewrites_find}
use Rattle.behind.specs.Behind.{behind_in, put_part}
use Rattle.session.specs.Core.{Behind, behind}
use Rattle.pci.specs.Views.{dword_of}
use Rattle.pci.specs.declared.Answer.{Answer}
use Rattle.pci.specs.declared.NoReply.{NoReply}
use Rattle.pci.specs.declared.NoReply.TheVariants.{Failed, Wrong}
use Rattle.command.specs.Machine.{cmd_step_of}
use Rattle.command.specs.declared.CmdStep.{CmdStep}
use Rattle.command.specs.declared.CmdStep.TheVariants as cs
use Rattle.buffer.specs.Steps.{make_step_of, free_step_of}
use Rattle.buffer.specs.declared.MakeStep.{MakeStep}
use Rattle.buffer.specs.declared.MakeStep.TheVariants as ms
use Rattle.buffer.specs.declared.FreeStep.{FreeStep}
use Rattle.buffer.specs.declared.FreeStep.TheVariants as fs
use Rattle.tasks.specs.Attributes.{attr_step_of}
use Rattle.tasks.specs.declared.AttrStep.{AttrStep}
use Rattle.tasks.specs.declared.AttrStep.TheVariants as ats
use Rattle.tasks.specs.Claim.{claim_step_of}
use Rattle.tasks.specs.declared.ClaimStep.{ClaimStep}
use Rattle.tasks.specs.declared.ClaimStep.TheVariants as ls
use Rattle.tasks.specs.Parting.{part_step_of}
use Rattle.tasks.specs.declared.PartingStep.{PartingStep}
use Rattle.tasks.specs.declared.PartingStep.TheVariants as ps
use Rattle.reset.specs.Steps.{reset_step_of}
use Rattle.reset.specs.Steps as rs
use Rattle.reset.specs.declared.Reset.{Reset}
use Rattle.reset.specs.declared.Ending.{Ending as ResetEnding}
use Rattle.reset.specs.declared.Ending.TheVariants as rg
use Rattle.uar.specs.Steps.{bar_step_of}
use Rattle.uar.specs.Steps as us
use Rattle.uar.specs.Uar.{Found}
use Rattle.uar.specs.declared.FindBar.{FindBar}
use Rattle.work.specs.Work.{working, work_step_of, attr_work, claim_work, make_work, free_work, cmd_work, part_work, look_step, reset_on, bar_on}
use Rattle.work.specs.declared.Task.{Task}
use Rattle.work.specs.declared.Task.TheVariants as t
use Rattle.work.specs.declared.Work.{Work}
use Rattle.work.specs.declared.WorkStep.{WorkStep}
use Rattle.intask.specs.InTask.{beside_of, stepped_in}
use Rattle.intask.proofs.Laws.{is_plain, not_so}

-- the reset and the search are those of this work
abbrev Keeps : Work → WorkStep → Type 0
Keeps w s = (s.work.reset ≡ w.reset) × (s.work.find ≡ w.find)

attr_keeps : (w : Work) (x : AttrStep) → Keeps w (attr_work w x)
attr_keeps w (ats.More k) = (refl, refl)
attr_keeps w (ats.Ended x) = (refl, refl)

claim_keeps : (w : Work) (x : ClaimStep) → Keeps w (claim_work w x)
claim_keeps w (ls.More k) = (refl, refl)
claim_keeps w (ls.Ended x) = (refl, refl)

make_keeps : (w : Work) (x : MakeStep) → Keeps w (make_work w x)
make_keeps w (ms.More k) = (refl, refl)
make_keeps w (ms.Ended x) = (refl, refl)

free_keeps : (w : Work) (x : FreeStep) → Keeps w (free_work w x)
free_keeps w (fs.More k) = (refl, refl)
free_keeps w fs.Freed = (refl, refl)

cmd_keeps : (w : Work) (x : CmdStep) → Keeps w (cmd_work w x)
cmd_keeps w (cs.More k) = (refl, refl)
cmd_keeps w (cs.Ended x) = (refl, refl)

part_keeps : (w : Work) (x : PartingStep) → Keeps w (part_work w x)
part_keeps w (ps.More k) = (refl, refl)
part_keeps w ps.Ended = (refl, refl)

look_keeps : (w : Work) (x : Result ℕ NoReply) → Keeps w (look_step w x)
look_keeps w (Ok v) = (refl, refl)
look_keeps w (Err Failed) = (refl, refl)
look_keeps w (Err Wrong) = (refl, refl)

plain_keeps : (k : Task) (r : Reset) (f : FindBar) (a : Answer) (bs : List ℕ) → is_plain k ≡ true → Keeps (working k r f) (work_step_of (working k r f) a bs)
plain_keeps t.Rest r f a bs h = (refl, refl)
plain_keeps (t.Attr y) r f a bs h = attr_keeps (working (t.Attr y) r f) (attr_step_of y a)
plain_keeps (t.Claim y) r f a bs h = claim_keeps (working (t.Claim y) r f) (claim_step_of y a)
plain_keeps t.Reset r f a bs h = absurd (not_so h)
plain_keeps t.Bar r f a bs h = absurd (not_so h)
plain_keeps (t.Make y) r f a bs h = make_keeps (working (t.Make y) r f) (make_step_of y a)
plain_keeps (t.Free y) r f a bs h = free_keeps (working (t.Free y) r f) (free_step_of y a)
plain_keeps t.Look r f a bs h = look_keeps (working t.Look r f) (dword_of a)
plain_keeps (t.Cmd y) r f a bs h = cmd_keeps (working (t.Cmd y) r f) (cmd_step_of y a)
plain_keeps (t.Part y) r f a bs h = part_keeps (working (t.Part y) r f) (part_step_of y a)

-- what stood behind the head, with the reset and the search of a step
beside : (b : Behind) (r : Reset) (f : FindBar) (s : WorkStep) → s.work.reset ≡ r → s.work.find ≡ f
    → behind r f b.cap b.port1 b.port2 b.slots ≡ beside_of s b
beside b r f s e d =
    ap (λ (v : Reset). behind v f b.cap b.port1 b.port2 b.slots) (sym e)
    ∙ ap (λ (v : FindBar). behind s.work.reset v b.cap b.port1 b.port2 b.slots) (sym d)

stays : (k : Task) (a : Answer) (bs : List ℕ) (b : Behind) → is_plain k ≡ true → b ≡ beside_of (work_step_of (working k b.reset b.find) a bs) b
stays k a bs b h =
    let q = plain_keeps k b.reset b.find a bs h in beside b b.reset b.find (work_step_of (working k b.reset b.find) a bs) q.0 q.1

pub plain_rewrites : (k : Task) (a : Answer) (bs s : List ℕ) → is_plain k ≡ true → Rewrites s s (stepped_in k a bs s)
plain_rewrites k a bs s h = rewrites_none s (stepped_in k a bs s) (stays k a bs (behind_in s) h)

-- a reset leaves the search, and does not look at it
reset_leaves : (f g : FindBar) (r v : Reset) (e : ResetEnding)
    → ((reset_on (working t.Reset r g) v e).work.reset ≡ (reset_on (working t.Reset r f) v e).work.reset) × ((reset_on (working t.Reset r g) v e).work.find ≡ g)
reset_leaves f g r v rg.Going = (refl, refl)
reset_leaves f g r v (rg.Ended x) = (refl, refl)

resets : (a : Answer) (bs : List ℕ) (b : Behind) (v : Reset) → v ≡ (work_step_of (working t.Reset b.reset us.started) a bs).work.reset
    → behind v b.find b.cap b.port1 b.port2 b.slots ≡ beside_of (work_step_of (working t.Reset b.reset b.find) a bs) b
resets a bs b v e =
    let n = reset_step_of b.reset a in
    let q = reset_leaves us.started b.find b.reset n.reset n.ending in
    beside b v b.find (work_step_of (working t.Reset b.reset b.find) a bs) (q.0 ∙ sym e) q.1

pub reset_rewrites : (s z : List ℕ) (a : Answer) (bs : List ℕ) (v : Reset) → ResetFits v → z ≡ put_part reset_at (reset_words v) s
    → v ≡ (work_step_of (working t.Reset (behind_in s).reset us.started) a bs).work.reset → Rewrites s z (stepped_in t.Reset a bs s)
reset_rewrites s z a bs v fit e d =
    subst (λ (y : List ℕ). Rewrites s y (stepped_in t.Reset a bs s)) (sym e)
    (subst (λ (b : Behind). Rewrites s (put_part reset_at (reset_words v) s) b) (resets a bs (behind_in s) v d) (rewrites_reset s v fit))

-- the search leaves the reset, and does not look at it
bar_leaves : (r v : Reset) (f g : FindBar) (e : Option Found)
    → ((bar_on (working t.Bar v f) g e).work.reset ≡ v) × ((bar_on (working t.Bar v f) g e).work.find ≡ (bar_on (working t.Bar r f) g e).work.find)
bar_leaves r v f g None = (refl, refl)
bar_leaves r v f g (Some x) = (refl, refl)

finds : (a : Answer) (bs : List ℕ) (b : Behind) (v : FindBar) → v ≡ (work_step_of (working t.Bar rs.started b.find) a bs).work.find
    → behind b.reset v b.cap b.port1 b.port2 b.slots ≡ beside_of (work_step_of (working t.Bar b.reset b.find) a bs) b
finds a bs b v e =
    let n = bar_step_of b.find a bs in
    let q = bar_leaves rs.started b.reset b.find n.find n.ending in
    beside b b.reset v (work_step_of (working t.Bar b.reset b.find) a bs) q.0 (q.1 ∙ sym e)

pub find_rewrites : (s z : List ℕ) (a : Answer) (bs : List ℕ) (v : FindBar) → FindFits v → z ≡ put_part find_at (find_words v) s
    → v ≡ (work_step_of (working t.Bar rs.started (behind_in s).find) a bs).work.find → Rewrites s z (stepped_in t.Bar a bs s)
find_rewrites s z a bs v fit e d =
    subst (λ (y : List ℕ). Rewrites s y (stepped_in t.Bar a bs s)) (sym e)
    (subst (λ (b : Behind). Rewrites s (put_part find_at (find_words v) s) b) (finds a bs (behind_in s) v d) (rewrites_find s v fit))

-- the task is told
pub told_rewrites : (s z : List ℕ) (a : Answer) (bs : List ℕ) (k j : Task) → k ≡ j → Rewrites s z (stepped_in k a bs s) → Rewrites s z (stepped_in j a bs s)
told_rewrites s z a bs k j e h = subst (λ (y : Task). Rewrites s z (stepped_in y a bs s)) e h
