-- WHAT IS LEFT OF A SESSION by an answer, in its parts.
use Rattle.std.specs.Prelude.{Option}
use Prim.Native.Nat.{ℕ, ◌<◌}
use mathlib.Core.Bool.{Bool, true, false}
use mathlib.Core.Path.{◌≡◌, refl, ap, sym, subst, ◌∙◌}
use mathlib.Core.List.{List}
use borrow.Author.Tests.{ltb-true, ltb-false}
use lib.Dec.{ltb}
use lib.ListN.{length}
use Rattle.fields.specs.Outcome.{pick}
use Rattle.words.specs.Places.{state_bytes}
use Rattle.words_task.specs.Fits.{TaskFits}
use Rattle.words_session.specs.Image.{put_task, decode_of}
use Rattle.words_laws.specs.Kept.{NoteFits, Rewritten, Rewrites}
use Rattle.words_laws.proofs.Parts.{decode_parts, parts_decode}
use Rattle.words_laws.proofs.Put.{put_task_lem}
use Rattle.words_laws.proofs.Rewrites.{rewrites_then, rewrites_noted}
use Rattle.pci.specs.declared.Answer.{Answer}
use Rattle.pci.specs.declared.Question.{Question}
use Rattle.work.specs.Work.{working, work_step_of}
use Rattle.work.specs.declared.Task.{Task}
use Rattle.work.specs.declared.Work.{Work}
use Rattle.session.specs.Core.{Behind, full, start_of, noted}
use Rattle.session.specs.Session.{slot_at, INBOX, OUTBOX}
use Rattle.session.specs.Course.{Place, neither, inbox, outbox, slot}
use Rattle.session.specs.declared.Books.{Books}
use Rattle.session.specs.declared.Core.{Core}
use Rattle.session.specs.declared.Note.{Note}
use Rattle.session.specs.declared.Session.{Session}
use Rattle.session.specs.declared.Slot.{Slot}
use Rattle.behind.specs.Behind.{behind_in, slot_put, noted_in}
use Rattle.behind.proofs.Laws.{put_short}
use Rattle.fw_plan.specs.Calls.{wants, asks_of, booked_by, wipe_of}
use Rattle.fw_plan.specs.declared.Wipe.{Wipe}
use Rattle.intask.specs.InTask.{work_in, going_of, beside_in, beside_of}
use Rattle.intask.specs.declared.Going.{Going}
use Rattle.booking.specs.Booking.{is_deal, left_at, slot_by, booked_behind}
use Rattle.bytes_plan.specs.Left.{stepped_in}
use Rattle.abi.specs.Kept.{Keeps}
use Rattle.fw_step.specs.Step.{took_of, behind_after}
use Rattle.fw_step.specs.declared.Took.{Took}

-- WHERE THE BYTES ARE TOO FEW, no slot is written
left_as : (b : Bool) (xs ys : List ℕ) → xs ≡ ys → pick b ys xs ≡ xs
left_as true xs ys e = sym e
left_as false xs ys e = refl

slot_short : (i : ℕ) (v : Slot) (xs : List ℕ) → length xs < state_bytes → slot_put i v xs ≡ xs
slot_short i v xs h = left_as (ltb i 82) xs _ (put_short _ _ xs h)

place_short : (p : Place) (b : Books) (xs : List ℕ) → length xs < state_bytes → left_at p b xs ≡ xs
place_short neither b xs h = refl
place_short inbox b xs h = slot_short INBOX (slot_at b.lists.slots INBOX) xs h
place_short outbox b xs h = slot_short OUTBOX (slot_at b.lists.slots OUTBOX) xs h
place_short (slot i w) b xs h = slot_short i (slot_at b.lists.slots i) xs h

book_short : (x : Session) (q : Question) (a : Answer) (xs : List ℕ) → length xs < state_bytes → slot_by x q a xs ≡ xs
book_short x q a xs h = left_as (is_deal q) xs _ (sym (place_short (wants x) (booked_by (wants x) q a x.books) xs h))

module _ (s : Core) (q : Question) (a : Answer) (r xs ys : List ℕ) (asked : q ≡ asks_of (full s (behind_in xs))) (wrote : ys ≡ slot_by (full s (behind_in xs)) q a xs)
    (booked : Rewrites xs ys (booked_behind s q a xs)) where
  -- the slot that was booked leaves the task's own words
  pub work_kept : work_in s.task ys ≡ (full s (behind_in xs)).work
  work_kept = by (ltb (length xs) state_bytes) refl
    where
      by : (b : Bool) → ltb (length xs) state_bytes ≡ b → work_in s.task ys ≡ (full s (behind_in xs)).work
      by true e = ap (work_in s.task) (wrote ∙ book_short (full s (behind_in xs)) q a xs (ltb-true (length xs) state_bytes e))
      by false e = ap (λ (b : Behind). working s.task b.reset b.find) (booked (ltb-false (length xs) state_bytes e)).reads

  pub steps : (zs : List ℕ) → zs ≡ beside_in s.task (work_step_of (work_in s.task ys) a r) ys → zs ≡ stepped_in (full s (behind_in xs)) a r xs
  steps zs e =
      let x = full s (behind_in xs) in
      e ∙ ap (λ (w : Work). beside_in s.task (work_step_of w a r) ys) work_kept
      ∙ ap (beside_in s.task (work_step_of x.work a r)) (wrote ∙ ap (λ (y : Question). slot_by x y a xs) asked)

  pub both : (zs : List ℕ) → Rewrites ys zs (beside_of (work_step_of (work_in s.task ys) a r) (behind_in ys)) → Rewrites xs zs (behind_after (full s (behind_in xs)) a r (behind_in xs))
  both zs h room =
      let x = full s (behind_in xs) in
      let e : beside_of (work_step_of (work_in s.task ys) a r) (behind_in ys) ≡ behind_after x a r (behind_in xs) =
      ap (λ (w : Work). beside_of (work_step_of w a r) (behind_in ys)) work_kept
      ∙ ap (beside_of (work_step_of x.work a r)) ((booked room).reads ∙ ap (λ (y : Question). booked_behind s y a xs) asked) in
      subst (λ (b : Behind). Rewritten xs zs b) e (rewrites_then xs ys zs _ _ booked h room)

-- what an answer makes of the task
pub took_is : (x : Session) (a : Answer) (r : List ℕ) (g : Going) (w : Wipe) → g ≡ going_of (work_step_of x.work a r) → w ≡ wipe_of x a
    → ◌≡◌ {A = Took} (record { task = g.task; ending = g.ending; wipe = w }) (took_of x a r)
took_is x a r g w e d =
    ap (λ (y : Going). record { task = y.task; ending = y.ending; wipe = w }) e
    ∙ ap (λ (y : Wipe). record { task = (work_step_of x.work a r).work.task; ending = (work_step_of x.work a r).ending; wipe = y }) d

-- the task alone is written
pub task_keeps : (s : Core) (k : Task) (xs ys : List ℕ) → TaskFits k → ys ≡ put_task k xs → Keeps xs ys (full s (behind_in xs)) (full (start_of s s.stage k) (behind_in xs))
unfolding Keeps
task_keeps s k xs ys fit e d = ap decode_of e ∙ parts_decode _ _ (put_task_lem xs s (behind_in xs) k fit (decode_parts xs _ d))

-- a reply is noted
pub noted_by_lem : (y n : Note) (z : Option ℕ) (o xs zs : List ℕ) → y ≡ n → zs ≡ noted_in n z o xs → NoteFits n z o
    → (zs ≡ noted_in y z o xs) × Rewrites xs zs (noted y z o (behind_in xs))
noted_by_lem y n z o xs zs e d fit =
    subst (λ (k : Note). (zs ≡ noted_in k z o xs) × Rewrites xs zs (noted k z o (behind_in xs))) (sym e)
    (d, subst (λ (t : List ℕ). Rewrites xs t (noted n z o (behind_in xs))) (sym d) (rewrites_noted n z o xs fit))
