-- A TASK HAS ENDED: what is left then is what the definition says of the session that the bytes held.
use Rattle.std.specs.Prelude.{Option}
use Prim.Native.Nat.{ℕ, ◌≤◌}
use mathlib.Core.Path.{◌≡◌, refl, ap, sym, subst, ◌∙◌}
use mathlib.Core.List.{List}
use lib.ListN.{length}
use Rattle.fields.specs.Outcome.{value}
use Rattle.words.specs.Places.{state_bytes}
use Rattle.words_session.specs.Image.{decode_of}
use Rattle.words_laws.specs.Kept.{Rewritten, Rewrites}
use Rattle.work.specs.declared.End.{End}
use Rattle.work.specs.declared.Ending.TheVariants.{Ended}
use Rattle.session.specs.Core.{Behind, full, plan_in, noted}
use Rattle.session.specs.declared.Note.{Note}
use Rattle.session.specs.declared.Core.{Core}
use Rattle.session.specs.declared.Plan.{Plan}
use Rattle.session.specs.declared.Planned.{Planned}
use Rattle.session.specs.declared.Top.{Top}
use Rattle.behind.specs.Behind.{behind_in, noted_in}
use Rattle.opening.specs.Notes.{note_at}
use Rattle.fw_plan.specs.Calls.{plan_of, begun_of, begun_in, begun_out, ended_of, ended_in, ended_out}
use Rattle.bytes_plan.specs.Left.{headed_in, left_in}
use Rattle.abi.specs.Kept.{Writes}
use Rattle.fw_begin.specs.Begins.{said_of}
use Rattle.fw_begin.specs.declared.Said.{Said}
use Rattle.fw.specs.Follow.{noted_by, Leads}

-- what a reply leaves is noted, by its name
pub note_is : (n n' : Note) (z : Option ℕ) (o xs zs : List ℕ) → n ≡ n' → zs ≡ noted_in n z o xs → Rewrites xs zs (noted n z o (behind_in xs))
    → (zs ≡ noted_in n' z o xs) × Rewrites xs zs (noted n' z o (behind_in xs))
note_is n n' z o xs zs e d h = (d ∙ ap (λ (k : Note). noted_in k z o xs) e, subst (λ (k : Note). Rewrites xs zs (noted k z o (behind_in xs))) e h)

module _ (s : Core) (y : End) (i o : List ℕ) (top : Top) (xs ys : List ℕ) (p : Plan) (room : state_bytes ≤ length xs)
    (wrote : ys ≡ noted_in (note_at s.uar.size s.stage y o) s.uar.size o xs) (rewrote : Rewrites xs ys (noted_by s y o (behind_in xs))) (leads : Leads p s y o top (behind_in ys)) where
  plan_is : plan_in p (behind_in ys) ≡ plan_of (full s (behind_in xs)) y o top
  plan_is = leads (behind_in xs) (rewrote room).reads

  pub said : (r : Said) → r ≡ said_of (begun_of (plan_in p (behind_in ys)) i) → r ≡ said_of (ended_of (full s (behind_in xs)) y i o top)
  said r e = e ∙ ap (λ (d : Planned). said_of (begun_of d i)) plan_is

  pub inbox_is : (zs : List ℕ) → zs ≡ begun_in (plan_in p (behind_in ys)) i → zs ≡ ended_in (full s (behind_in xs)) y i o top
  inbox_is zs e = e ∙ ap (λ (d : Planned). begun_in d i) plan_is

  pub outbox_is : (zs : List ℕ) → zs ≡ begun_out (plan_in p (behind_in ys)) o → zs ≡ ended_out (full s (behind_in xs)) y o top
  outbox_is zs e = e ∙ ap (λ (d : Planned). begun_out d o) plan_is

  pub left : (zs : List ℕ) → zs ≡ headed_in (begun_of (plan_in p (behind_in ys)) i).session ys
      → zs ≡ left_in (full s (behind_in xs)) (ended_of (full s (behind_in xs)) y i o top).session o (Ended y) xs
  left zs e =
      e ∙ ap (λ (d : Planned). headed_in (begun_of d i).session ys) plan_is ∙ ap (headed_in (ended_of (full s (behind_in xs)) y i o top).session) wrote

  pub writes : (zs : List ℕ) → Writes ys zs (begun_of (plan_in p (behind_in ys)) i).session → Writes xs zs (ended_of (full s (behind_in xs)) y i o top).session
  unfolding Writes
  writes zs h c n d =
      let w = subst (λ (d : Planned). Writes ys zs (begun_of d i).session) plan_is h in
      w c n ((rewrote room).holds c d ∙ ap (λ (b : Behind). value (full c b)) (sym (rewrote room).reads))
