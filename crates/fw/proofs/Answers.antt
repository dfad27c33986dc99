-- AN ANSWER on the bytes of a session whose head was read: refused, or taken.
use Prim.Native.Nat.{ℕ, ◌<◌, ◌≤◌}
use mathlib.Core.Bool.{Bool, true, false}
use mathlib.Core.Path.{◌≡◌, refl, ap, sym, subst, ◌∙◌}
use mathlib.Core.List.{List, []}
use borrow.Author.Tests.{le-ltb}
use lib.Dec.{ltb}
use lib.ListN.{length}
use Rattle.fields.specs.Outcome.{Outcome, value, pick}
use Rattle.pci.specs.declared.Answer.{Answer}
use Rattle.pci.specs.declared.Question.{Question}
use Rattle.pci.specs.declared.Refusal.{Refusal}
use Rattle.pci.specs.declared.Refusal.TheVariants as y
use Rattle.work.specs.Work.{work_step_of}
use Rattle.work.specs.declared.Ending.{Ending}
use Rattle.work.specs.declared.Ending.TheVariants as e
use Rattle.work.specs.declared.Work.{Work}
use Rattle.session.specs.declared.Failure.{Failure}
use Rattle.session.specs.declared.Failure.TheVariants as f
use Rattle.session.specs.declared.Session.{Session}
use Rattle.session.specs.declared.Top.{Top}
use Rattle.words.specs.Places.{state_bytes}
use Rattle.words_session.specs.Image.{core_of, core_in, head_in, head_stands, head_of, decode_of}
use Rattle.session.specs.Session.{fresh}
use Rattle.session.specs.Core.{full}
use Rattle.session.specs.declared.Core.{Core}
use Rattle.behind.specs.Behind.{behind_in}
use Rattle.words_calls.specs.Calls.{turn_in}
use Rattle.fw_plan.specs.Calls.{answerable, is_lent, answer_of, booked_of, step_turn, step_of, step_in, step_out}
use Rattle.fw_plan.specs.declared.Turn.{Turn}
use Rattle.calls_plan.specs.Counts.{Counted}
use Rattle.calls_plan.proofs.Counts.{answer_counted}
use Rattle.bytes_plan.specs.Left.{answer_left}
use Rattle.abi.specs.Turns.{after, on_session, answer_known, answered}
use Rattle.abi.specs.Kept.{answer_next, Keeps, Holds, Steps}
use Rattle.abi.proofs.Turns.{head_short, head_none, head_good, whole}
use Rattle.abi.proofs.Kept.{answer_keeps, answer_late, answer_short, counted, head_holds, no_head_holds}
use Rattle.fw_begin.specs.Begins.{said_of}
use Rattle.fw_begin.specs.declared.Said.{Said}

-- a refusal is none
abbrev IsRefused : Failure → Type 0
IsRefused f.Nothing = ⊥
IsRefused (f.By z) = Unit {0}

not_good : {z : Refusal} → f.By z ≡ f.Nothing → ⊥
not_good h = subst IsRefused h tt

-- a step refuses nothing
step_at_lem : (x : Session) (a : Answer) (w : Work) (i o : List ℕ) (u : Top) (z : Ending) → (step_turn x a w i o u z).refusal ≡ f.Nothing
step_at_lem x a w i o u e.Going = refl
step_at_lem x a w i o u (e.Ended z) = refl

step_good : (x : Session) (a : Answer) (r i o : List ℕ) (u : Top) → (step_of x a r i o u).refusal ≡ f.Nothing
unfolding step_of
step_good x a r i o u = step_at_lem (booked_of x a) a (work_step_of x.work a r).work i o u (work_step_of x.work a r).ending

module _ (x : Session) (a : Answer) (r : List ℕ) (u : Top) (s i o w : List ℕ) where
  pub late : answerable x a ≡ false → (after 20 s i o w ≡ answer_known x a r u s i o w) × Keeps s s x (answer_next a r u i o w x)
  unfolding answer_known
  late e = (rw e refl, answer_late x a r u i o w s e)

  pub no_room : answerable x a ≡ true → ltb (length w) 40 ≡ true → (after 21 s i o w ≡ answer_known x a r u s i o w) × Keeps s s x (answer_next a r u i o w x)
  unfolding answer_known
  no_room e d = (rw (e, d) refl, answer_short x a r u i o w s e d)

  unlent_is : answerable x a ≡ true → is_lent i o u ≡ false → (answer_of x a r i o u).refusal ≡ f.Nothing → ⊥
  unlent_is e d h = let q : (answer_of x a r i o u).refusal ≡ f.By y.Short = rw (e, d) refl in not_good (sym q ∙ h)

  pub unlent : answerable x a ≡ true → ltb (length w) 40 ≡ false → is_lent i o u ≡ false → (after 21 s i o w ≡ answer_known x a r u s i o w) × Keeps s s x (answer_next a r u i o w x)
  unfolding answer_known
  unlent e d l = (rw (e, d, l) refl, answer_keeps x a r u i o w s s e d (λ why h. refl) (λ h. absurd (unlent_is e l h)))

  module _ (e : answerable x a ≡ true) (d : ltb (length w) 40 ≡ false) (l : is_lent i o u ≡ true) where
    turn_is : answer_of x a r i o u ≡ step_of x a r i o u
    turn_is = rw (e, l) refl

    known_is : after 0 (answer_left x a r o (step_of x a r i o u).session s) (step_in x a r i o u) (step_out x a r o u) (turn_in w (step_of x a r i o u).question (step_of x a r i o u).undo)
        ≡ answer_known x a r u s i o w
    unfolding answer_known
    known_is = rw (e, d, l, step_good x a r i o u) refl

    pub taken : (said : Said) (s' i' o' w' : List ℕ) → said ≡ said_of (step_of x a r i o u) → s' ≡ answer_left x a r o (step_of x a r i o u).session s → i' ≡ step_in x a r i o u
        → o' ≡ step_out x a r o u → w' ≡ turn_in w said.question said.undo → after 0 s' i' o' w' ≡ answer_known x a r u s i o w
    taken said s' i' o' w' h hs hi ho hw = whole refl hs hi ho (hw ∙ ap (λ (z : Said). turn_in w z.question z.undo) h) ∙ known_is

    pub taken_keeps : (s' : List ℕ) → Steps s s' x (step_of x a r i o u).session → Keeps s s' x (answer_next a r u i o w x)
    unfolding Keeps Steps
    taken_keeps s' h =
        answer_keeps x a r u i o w s s' e d (λ why z. absurd (not_good (sym z ∙ ap (λ t. t.refusal) turn_is ∙ step_good x a r i o u)))
        (λ z dd. h (subst (λ t. Counted t.session.books.lists) turn_is (answer_counted x a r i o u (counted s x dd))) dd ∙ ap (λ t. value t.session) (sym turn_is))

-- THE HEAD WAS READ: it is that of the bytes, where they are enough
pub head_is : (s : List ℕ) (c : Core) → state_bytes ≤ length s → c ≡ head_in s → c ≡ core_in s
head_is s c h e = e ∙ ap (λ (b : Bool). pick b (core_of fresh) (core_in s)) (le-ltb (length s) state_bytes h)

stands_is : (s : List ℕ) (c : Core) (b : Bool) → state_bytes ≤ length s → c ≡ head_in s → b ≡ pick (ltb (length s) state_bytes) false (head_stands s c) → head_stands s (core_in s) ≡ b
stands_is s c b h e d =
    ap (head_stands s) (sym (head_is s c h e)) ∙ sym (d ∙ ap (λ (q : Bool). pick q false (head_stands s c)) (le-ltb (length s) state_bytes h))

module _ (a : Answer) (r : List ℕ) (u : Top) (s i o w : List ℕ) where
  onto : {z y : Outcome Session} → z ≡ y → on_session y (λ x. answer_known x a r u s i o w) s i o w ≡ on_session z (λ x. answer_known x a r u s i o w) s i o w
  onto e = ap (λ (z : Outcome Session). on_session z (λ x. answer_known x a r u s i o w) s i o w) (sym e)

  pub too_few : length s < state_bytes → (after 21 s i o w ≡ answered a r u s i o w) × Holds s s (answer_next a r u i o w)
  unfolding answered
  too_few h = (onto (head_short s h), no_head_holds s s (answer_next a r u i o w) 21 [] (head_short s h))

  pub no_head : (c : Core) (b : Bool) → state_bytes ≤ length s → c ≡ head_in s → b ≡ pick (ltb (length s) state_bytes) false (head_stands s c) → b ≡ false
      → (after 20 s i o w ≡ answered a r u s i o w) × Holds s s (answer_next a r u i o w)
  unfolding answered
  no_head c b h e d g =
      let z = head_none s h (stands_is s c b h e d ∙ g) in (onto z, no_head_holds s s (answer_next a r u i o w) 20 [] z)

  pub a_head : (c : Core) (b : Bool) → state_bytes ≤ length s → c ≡ head_in s → b ≡ pick (ltb (length s) state_bytes) false (head_stands s c) → b ≡ true → (n : ℕ) (s' i' o' w' : List ℕ)
      → after n s' i' o' w' ≡ answer_known (full c (behind_in s)) a r u s i o w → Keeps s s' (full c (behind_in s)) (answer_next a r u i o w (full c (behind_in s)))
      → (after n s' i' o' w' ≡ answered a r u s i o w) × Holds s s' (answer_next a r u i o w)
  unfolding answered
  a_head c b h e d g n s' i' o' w' k l =
      let is = head_is s c h e in
      let z = head_good s h (stands_is s c b h e d ∙ g) in (
        k ∙ ap (λ (v : Core). answer_known (full v (behind_in s)) a r u s i o w) is ∙ onto z,
        head_holds s s' (answer_next a r u i o w) (subst (λ (v : Core). Keeps s s' (full v (behind_in s)) (answer_next a r u i o w (full v (behind_in s)))) is l),
      )
