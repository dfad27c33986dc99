-- The next port, or the layout, by what is tested.
use Prim.Native.Nat.{ℕ, ◌+◌}
use mathlib.Core.Bool.{Bool, true, false}
use mathlib.Core.Path.{◌≡◌, ap, sym, ◌∙◌}
use lib.Dec.{ltb}
use Rattle.std.specs.Prelude.{Result, Ok, Err}
use Rattle.fields.specs.Outcome.{pick}
use Rattle.pci.specs.declared.Refusal.TheVariants as x
use Rattle.layout.specs.Layout.{laid, misfit_by}
use Rattle.layout.specs.Counts.{profile_of}
use Rattle.layout.specs.declared.Layout.{Layout}
use Rattle.layout.specs.declared.Misfit.{Misfit}
use Rattle.layout.specs.declared.Misfit.TheVariants as f
use Rattle.session.specs.declared.Boot.TheVariants as k
use Rattle.session.specs.declared.Session.{Session}
use Rattle.session.specs.declared.Top.{Top}
use Rattle.opening_plan.specs.Opening.{ports_of}
use Rattle.opening_plan.specs.Plan.{ask_plan, imm_plan, fail_plan, layout_plan, port_plan}

module _ (s : Session) (top : Top) where
  pub port_more : (n : ℕ) → ltb n (ports_of s.info) ≡ true → ask_plan s (k.Port (n + 1)) 0x043 (n + 1) top ≡ port_plan s n top
  unfolding port_plan
  port_more n h = sym (ap (λ (z : Bool). pick z (ask_plan s (k.Port (n + 1)) 0x043 (n + 1) top) (layout_plan s (profile_of s.info.cap) top)) h)

  pub port_last : (n : ℕ) → ltb n (ports_of s.info) ≡ false → layout_plan s (profile_of s.info.cap) top ≡ port_plan s n top
  unfolding port_plan
  port_last n h = sym (ap (λ (z : Bool). pick z (ask_plan s (k.Port (n + 1)) 0x043 (n + 1) top) (layout_plan s (profile_of s.info.cap) top)) h)

  pub laid_good : (y : Result Layout Misfit) (l : Layout) → y ≡ Ok l → imm_plan s k.IcmSize 0xffd l.total top ≡ layout_plan s (laid y) top
  unfolding layout_plan
  laid_good y l h = sym (ap (λ (z : Result Layout Misfit). layout_plan s (laid z) top) h)

  pub laid_entry : (y : Result Layout Misfit) (z : Misfit) (i : ℕ) → y ≡ Err z → z ≡ f.Entry i → fail_plan s (x.Entry i) top ≡ layout_plan s (laid y) top
  unfolding layout_plan
  laid_entry y z i h e = sym (ap (λ (r : Result Layout Misfit). layout_plan s (laid r) top) h ∙ ap (λ (x : Misfit). layout_plan s (misfit_by x) top) e)

  pub laid_total : (y : Result Layout Misfit) (z : Misfit) (n : ℕ) → y ≡ Err z → z ≡ f.Total n → fail_plan s (x.Total n) top ≡ layout_plan s (laid y) top
  unfolding layout_plan
  laid_total y z n h e = sym (ap (λ (r : Result Layout Misfit). layout_plan s (laid r) top) h ∙ ap (λ (x : Misfit). layout_plan s (misfit_by x) top) e)
