-- A PLAN LEADS where the definition says, in each stage.
use Prim.Native.Nat.{ℕ}
use mathlib.Core.Bool.{Bool, true, false}
use mathlib.Core.Path.{◌≡◌, refl, ap, sym, ◌∙◌}
use mathlib.Core.List.{List}
use Rattle.fields.specs.Outcome.{pick}
use Rattle.work.specs.declared.End.{End}
use Rattle.work.specs.declared.Task.{Task}
use Rattle.work.specs.declared.Task.TheVariants as t
use Rattle.session.specs.Session.{planned}
use Rattle.reset.specs.Steps as rs
use Rattle.uar.specs.Steps as us
use Rattle.session.specs.Core.{Behind, behind, full, plan_in, leads, noted, begun, is_reset, is_find}
use Rattle.session.specs.declared.Boot.{Boot}
use Rattle.session.specs.declared.Core.{Core}
use Rattle.session.specs.declared.Fill.TheVariants as w
use Rattle.session.specs.declared.Plan.{Plan}
use Rattle.session.specs.declared.Planned.{Planned}
use Rattle.session.specs.declared.Session.{Session}
use Rattle.session.specs.declared.Stage.{Stage}
use Rattle.session.specs.declared.Stage.TheVariants as g
use Rattle.session.specs.declared.Top.{Top}
use Rattle.opening_plan.specs.Plan.{boot_plan}
use Rattle.opening.specs.Notes.{note_at, boot_note, Found}
use Rattle.fw_plan.specs.Calls.{plan_at, stays_plan}
use Rattle.fw.specs.Follow.{Leads}

-- nothing begins in a stage that no reset and no search is for
pub plain_begun : (y : Stage) → is_reset y ≡ false → is_find y ≡ false → (k : Task) (b : Behind) → begun y k b ≡ b
plain_begun y r f t.Rest b = refl
plain_begun y r f (t.Attr z) b = refl
plain_begun y r f (t.Claim z) b = refl
plain_begun y r f t.Reset b = ap (λ (q : Bool). pick q (behind rs.started b.find b.cap b.port1 b.port2 b.slots) b) r
plain_begun y r f t.Bar b = ap (λ (q : Bool). pick q (behind b.reset us.started b.cap b.port1 b.port2 b.slots) b) f
plain_begun y r f (t.Make z) b = refl
plain_begun y r f (t.Free z) b = refl
plain_begun y r f t.Look b = refl
plain_begun y r f (t.Cmd z) b = refl
plain_begun y r f (t.Part z) b = refl

module _ (s : Core) (y : End) (o : List ℕ) (top : Top) (a : Behind) (r : Plan) where
  abbrev size_noted : Stage → Behind → Behind
  size_noted st b = noted (note_at s.uar.size st y o) s.uar.size o b

  -- a plan that looks behind the head
  pub stage_leads : (st : Stage) (f : Session → Planned) → s.stage ≡ st → plan_in r a ≡ f (full s a) → ((b : Behind) → size_noted st b ≡ b)
      → ((x : Session) → plan_at x y o top st ≡ f x) → Leads r s y o top a
  stage_leads st f h e none is b d =
      e ∙ ap (λ (z : Behind). f (full s z)) (d ∙ ap (λ (z : Stage). size_noted z b) h ∙ none b) ∙ sym (ap (plan_at (full s b) y o top) h ∙ is (full s b))

  -- one that stays
  pub rest_leads : (st : Stage) → s.stage ≡ st → r ≡ leads s w.Nothing top.count → is_reset st ≡ false → is_find st ≡ false → ((b : Behind) → size_noted st b ≡ b)
      → ((x : Session) → plan_at x y o top st ≡ stays_plan x top.count) → Leads r s y o top a
  rest_leads st h e i j none is =
      stage_leads st (λ x. stays_plan x top.count) h
      (ap (λ (p : Plan). plan_in p a) e ∙ ap (λ (z : Behind). planned (full s z) w.Nothing top.count) (ap (λ (z : Stage). begun z s.task a) h ∙ plain_begun st i j s.task a))
      none is

  -- one of bring-up, which finds the reply noted
  pub boot_leads : (z : Boot) → s.stage ≡ g.Boot z → Found r (boot_note s.uar.size z y o) s o (λ d. boot_plan d z y o top) a → Leads r s y o top a
  boot_leads z h f b d = f b (d ∙ ap (λ (st : Stage). size_noted st b) h) ∙ sym (ap (plan_at (full s b) y o top) h)
