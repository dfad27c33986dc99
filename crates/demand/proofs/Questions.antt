-- What the world is asked is what the course asks; and a task that asks nothing of the host leaves it as it is.
use Prim.Native.Nat.{ℕ}
use mathlib.Core.Bool.{false}
use mathlib.Core.List.{List}
use mathlib.Core.Option.{some, some-injective, none-ne-some}
use mathlib.Core.Path.{◌≡◌, refl, sym, ◌∙◌, ap, subst}
use Rattle.hcr.proofs.Laws.{swap_swap}
use Rattle.hcr.specs.declared.Post.{Post}
use Rattle.pci.specs.Script.{Ask, Reply, shown, config_read16, config_read32, config_write16, config_write32, read, write, attributes, resource, stall, allocate, mapped, unmap, free, fence}
use Rattle.pci.specs.declared.Question.{Question}
use Rattle.pci.specs.declared.Question.TheVariants as q
use Rattle.command.specs.Machine.{cmd_asks}
use Rattle.command.specs.declared.Catas.{Catas}
use Rattle.command.specs.declared.Phase.{Phase}
use Rattle.command.specs.declared.Phase.TheVariants as ph
use Rattle.reset.specs.Steps as rs
use Rattle.reset.specs.declared.Reset.{Reset}
use Rattle.reset.specs.declared.Phase.{Phase as ResetPhase}
use Rattle.reset.specs.declared.Phase.TheVariants as rp
use Rattle.tasks.specs.Attributes.{attr_asks}
use Rattle.tasks.specs.declared.Attr.{Attr}
use Rattle.tasks.specs.declared.Attr.TheVariants as ta
use Rattle.tasks.specs.Claim.{claim_asks}
use Rattle.tasks.specs.declared.Claim.{Claim}
use Rattle.tasks.specs.declared.Claim.TheVariants as tc
use Rattle.tasks.specs.Parting.{part_asks}
use Rattle.tasks.specs.declared.Parting.{Parting}
use Rattle.tasks.specs.declared.Parting.TheVariants as tp
use Rattle.uar.specs.Steps as us
use Rattle.uar.specs.declared.FindBar.{FindBar}
use Rattle.uar.specs.declared.BarPhase.{BarPhase}
use Rattle.uar.specs.declared.BarPhase.TheVariants as up
use Rattle.work.specs.Work.{task_asks}
use Rattle.work.specs.declared.Task.{Task}
use Rattle.work.specs.declared.Task.TheVariants as t
use Rattle.card.specs.Card.{Host, HostStep, World, Allowed}
use Rattle.demand.specs.Events.{asked, asks_back}
use Rattle.demand.proofs.Plans.{NoHost, IsRest}

-- an allowed question is asked as it is
pub asked_shown : (y : Ask) (i : List ℕ) (w : World) → Allowed i w y → asked (shown y) i ≡ some y
asked_shown (config_read16 o) i w a = refl
asked_shown (config_read32 o) i w a = refl
asked_shown (config_write16 o v) i w a = refl
asked_shown (config_write32 o v) i w a = refl
asked_shown (read b o) i w a = refl
asked_shown (write b o v) i w a = ap (λ (n : ℕ). some (write b o n)) (swap_swap v a.0)
asked_shown (attributes o v) i w a = refl
asked_shown (resource b) i w a = refl
asked_shown (stall u) i w a = refl
asked_shown (allocate n) i w a = refl
asked_shown (mapped k n) i w a = refl
asked_shown (unmap k) i w a = refl
asked_shown (free k n) i w a = refl
asked_shown (fence j) i w a = ap (λ (x : List ℕ). some (fence x)) (sym a)

-- where nothing is under way nothing is asked
pub rest_asks : (r : Reset) (f : FindBar) (x : Task) → IsRest x → task_asks r f x ≡ q.Finished
rest_asks r f t.Rest h = refl
rest_asks r f (t.Attr x) h = absurd h
rest_asks r f (t.Claim x) h = absurd h
rest_asks r f t.Reset h = absurd h
rest_asks r f t.Bar h = absurd h
rest_asks r f (t.Make x) h = absurd h
rest_asks r f (t.Free x) h = absurd h
rest_asks r f t.Look h = absurd h
rest_asks r f (t.Cmd x) h = absurd h
rest_asks r f (t.Part x) h = absurd h

pub nothing_asked : (x : Question) (i : List ℕ) (y : Ask) → x ≡ q.Finished → asked x i ≡ some y → ⊥
nothing_asked x i y e f = none-ne-some y (sym (ap (λ (z : Question). asked z i) e) ∙ f)

-- QUESTIONS THAT ASK NOTHING OF THE HOST
abbrev OfCard : Question → Type 0
OfCard (q.ConfigRead16 o) = Unit {0}
OfCard (q.ConfigRead32 o) = Unit {0}
OfCard (q.ConfigWrite16 o v) = Unit {0}
OfCard (q.ConfigWrite32 o v) = Unit {0}
OfCard (q.RegRead b o) = Unit {0}
OfCard (q.RegWrite b o v) = Unit {0}
OfCard (q.Attributes o v) = Unit {0}
OfCard (q.Resource b) = Unit {0}
OfCard (q.Stall u) = Unit {0}
OfCard (q.Allocate n) = ⊥
OfCard (q.Map k n) = ⊥
OfCard (q.Unmap k) = ⊥
OfCard (q.Free k n) = ⊥
OfCard q.Fence = Unit {0}
OfCard q.Finished = Unit {0}

cmd_card : (f : Phase) (x : Post) (g : _) (n : ℕ) (k : Catas) → OfCard (cmd_asks (record { phase = f; post = x; toggle = g; stalls = n; catas = k }))
unfolding cmd_asks
cmd_card ph.First x g n k = tt
cmd_card (ph.Writing i) x g n k = tt
cmd_card ph.Fence x g n k = tt
cmd_card ph.Go x g n k = tt
cmd_card ph.Poll x g n k = tt
cmd_card ph.Wait x g n k = tt
cmd_card ph.Fenced x g n k = tt
cmd_card ph.Status x g n k = tt
cmd_card ph.High x g n k = tt
cmd_card (ph.Low i) x g n k = tt
cmd_card ph.Catas x g n k = tt

attr_card : (x : Attr) → OfCard (attr_asks x)
attr_card ta.Get = tt
attr_card (ta.Supported x) = tt
attr_card (ta.Enable x y) = tt

claim_card : (x : Claim) → OfCard (claim_asks x)
claim_card tc.Command = tt
claim_card (tc.Write x) = tt
claim_card tc.Owner = tt

part_card : (x : Parting) → OfCard (part_asks x)
part_card tp.Disown = tt
part_card tp.Settle = tt
part_card (tp.Restore x) = tt
part_card tp.Owner = tt
part_card tp.Command = tt
part_card (tp.Write x) = tt

reset_card : (ds : List ℕ) (x : ResetPhase) → OfCard (rs.asks_at ds x)
reset_card ds (rp.Saving n) = tt
reset_card ds rp.Pointer = tt
reset_card ds (rp.Header n x) = tt
reset_card ds (rp.Device x) = tt
reset_card ds (rp.Link x y) = tt
reset_card ds (rp.Semaphore n) = tt
reset_card ds (rp.Hold n) = tt
reset_card ds rp.Writing = tt
reset_card ds rp.Settle = tt
reset_card ds (rp.Vendor n) = tt
reset_card ds (rp.Gone n) = tt
reset_card ds (rp.BackDevice x y z) = tt
reset_card ds (rp.BackLink x y) = tt
reset_card ds (rp.Back n) = tt

bar_card : (x : BarPhase) → OfCard (us.asks_at x)
bar_card (up.Reading n) = tt
bar_card (up.Choosing x) = tt

task_card : (r : Reset) (f : FindBar) (x : Task) → NoHost x → OfCard (task_asks r f x)
task_card r f t.Rest h = tt
task_card r f (t.Attr x) h = attr_card x
task_card r f (t.Claim x) h = claim_card x
task_card r f t.Reset h = reset_card r.dwords r.phase
task_card r f t.Bar h = bar_card f.phase
task_card r f (t.Make x) h = absurd h
task_card r f (t.Free x) h = absurd h
task_card r f t.Look h = tt
task_card r f (t.Cmd x) h = cmd_card x.phase x.post x.toggle x.stalls x.catas
task_card r f (t.Part x) h = part_card x

-- such a question leaves the host, and asks nothing back
abbrev pub Leaves : Host → Host → Ask → Type 0
Leaves k l y = (asks_back k y ≡ false) × ((r : Reply y) → HostStep k y r l → l ≡ k)

card_leaves : (x : Question) (i : List ℕ) (y : Ask) (k l : Host) → OfCard x → asked x i ≡ some y → Leaves k l y
card_leaves (q.ConfigRead16 o) i y k l h e = subst (Leaves k l) (some-injective (config_read16 o) y e) (refl, λ r s. s)
card_leaves (q.ConfigRead32 o) i y k l h e = subst (Leaves k l) (some-injective (config_read32 o) y e) (refl, λ r s. s)
card_leaves (q.ConfigWrite16 o v) i y k l h e = subst (Leaves k l) (some-injective (config_write16 o v) y e) (refl, λ r s. s)
card_leaves (q.ConfigWrite32 o v) i y k l h e = subst (Leaves k l) (some-injective (config_write32 o v) y e) (refl, λ r s. s)
card_leaves (q.RegRead b o) i y k l h e = subst (Leaves k l) (some-injective (read b o) y e) (refl, λ r s. s)
card_leaves (q.RegWrite b o v) i y k l h e = subst (Leaves k l) (some-injective _ y e) (refl, λ r s. s)
card_leaves (q.Attributes o v) i y k l h e = subst (Leaves k l) (some-injective (attributes o v) y e) (refl, λ r s. s)
card_leaves (q.Resource b) i y k l h e = subst (Leaves k l) (some-injective (resource b) y e) (refl, λ r s. s)
card_leaves (q.Stall u) i y k l h e = subst (Leaves k l) (some-injective (stall u) y e) (refl, λ r s. s)
card_leaves (q.Allocate n) i y k l h e = absurd h
card_leaves (q.Map b n) i y k l h e = absurd h
card_leaves (q.Unmap b) i y k l h e = absurd h
card_leaves (q.Free b n) i y k l h e = absurd h
card_leaves q.Fence i y k l h e = subst (Leaves k l) (some-injective (fence i) y e) (refl, λ r s. s)
card_leaves q.Finished i y k l h e = absurd (none-ne-some y e)

pub task_leaves : (r : Reset) (f : FindBar) (x : Task) (i : List ℕ) (y : Ask) (k l : Host) → NoHost x → asked (task_asks r f x) i ≡ some y → Leaves k l y
task_leaves r f x i y k l h e = card_leaves (task_asks r f x) i y k l (task_card r f x h) e
