-- What a call on bytes comes to, by what the bytes hold and by whether it is the time for the call.
use Prim.Native.Nat.{ℕ, ◌<◌, ◌≤◌}
use mathlib.Core.Bool.{Bool, true, false}
use mathlib.Core.Path.{◌≡◌, refl, ap, sym, ◌∙◌}
use mathlib.Core.List.{List, []}
use borrow.Author.Tests.{lt-ltb, le-ltb}
use lib.Dec.{ltb}
use lib.ListN.{length}
use Rattle.fields.specs.Outcome.{Outcome, value, refused, pick}
use Rattle.words.specs.Places.{state_bytes}
use Rattle.words_session.specs.Image.{core_of, core_in, session_in, head_stands, behind_stands, behind_of, head_of, decode_of}
use Rattle.words_laws.proofs.Parts.{given}
use Rattle.words_laws.proofs.Rows.{pick_true}
use Rattle.behind.specs.Behind.{behind_in, behind_from}
use Rattle.behind.proofs.Laws.{long}
use Rattle.session.specs.Core.{Behind, full}
use Rattle.session.specs.declared.Session.{Session}
use Rattle.fw_plan.specs.declared.Turn.{Turn}
use Rattle.abi.specs.Turns.{After, after, taken, turned, on_session}

-- THE SESSION that bytes hold is that of their head and of what stands behind it
pub held_full : (s : List ℕ) (x : Session) → decode_of s ≡ value x → x ≡ full (core_in s) (behind_in s)
held_full s x d = let g = given s x d in sym g.reads ∙ ap (full (core_in s)) (sym (long s g.enough))

-- the head is found to stand where all does
pub head_known : (s : List ℕ) (x : Session) → decode_of s ≡ value x → head_of s ≡ value x
head_known s x d =
    let g = given s x d in
    let h : head_stands s (core_of x) ≡ true = (pick_true (head_stands s (core_of x)) (behind_stands s (behind_of x)) g.stand).0 in
    let k : head_stands s (core_in s) ≡ true = ap (λ (y : Session). head_stands s (core_of y)) g.reads ∙ h in
    ap (λ (b : Bool). pick b (refused 21 []) (pick (head_stands s (core_in s)) (value (session_in s)) (refused 20 []))) (le-ltb (length s) state_bytes g.enough)
    ∙ ap (λ (b : Bool). pick b (value (session_in s)) (refused 20 [])) k ∙ ap value g.reads

-- WHAT THE HEAD IS FOUND TO BE: too short, none, or that of a session
pub head_short : (s : List ℕ) → length s < state_bytes → head_of s ≡ refused 21 []
head_short s h = rw (lt-ltb (length s) state_bytes h) refl

pub head_none : (s : List ℕ) → state_bytes ≤ length s → head_stands s (core_in s) ≡ false → head_of s ≡ refused 20 []
head_none s h e = rw (le-ltb (length s) state_bytes h, e) refl

pub head_good : (s : List ℕ) → state_bytes ≤ length s → head_stands s (core_in s) ≡ true → head_of s ≡ value (full (core_in s) (behind_in s))
head_good s h e = rw (le-ltb (length s) state_bytes h, e) refl

-- a call on them
pub on : {o : Outcome Session} (z : Outcome Session) (f : Session → After) (s i b w : List ℕ) → z ≡ o → on_session z f s i b w ≡ on_session o f s i b w
on z f s i b w e = ap (λ (y : Outcome Session). on_session y f s i b w) e

-- a call in its time, with room for what it says
pub in_time_lem : {b : Bool} (t : Turn) (s' i' o' s i o w : List ℕ) → b ≡ true → ltb (length w) 40 ≡ false → taken t s' s i' o' w ≡ turned b t s' i' o' s i o w
in_time_lem t s' i' o' s i o w e d = rw (e, d) refl

-- what a call leaves, by its parts
pub whole : {n n' : ℕ} {s s' i i' o o' w w' : List ℕ} → n ≡ n' → s ≡ s' → i ≡ i' → o ≡ o' → w ≡ w' → after n s i o w ≡ after n' s' i' o' w'
whole a b c d e = rw (a, b, c, d, e) refl
