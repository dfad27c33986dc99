-- What is read of the session that bytes hold, by what they were found to be.
use Prim.Native.Nat.{ℕ, ◌<◌, ◌≤◌}
use mathlib.Core.Bool.{Bool, true, false}
use mathlib.Core.Path.{◌≡◌, ap, sym, ◌∙◌}
use mathlib.Core.List.{List}
use borrow.Author.Tests.{le-ltb, lt-ltb}
use lib.Dec.{ltb}
use lib.ListN.{length}
use Rattle.fields.specs.Outcome.{Outcome, value, pick}
use Rattle.words_session.specs.Image.{session_in, head_in, decode_of, kept_as}
use Rattle.words_session.specs.declared.Kept.{Kept}
use Rattle.words_session.specs.declared.Kept.TheVariants as k
use Rattle.words_session.proofs.Laws.{head_long}
use Rattle.words_laws.proofs.Parts.{given}
use Rattle.behind.specs.Behind.{behind_in}
use Rattle.session.specs.Core.{full}
use Rattle.session.specs.declared.Core.{Core}
use Rattle.session.specs.declared.Session.{Session}
use Rattle.abi.specs.Readers.{Read, reads, of_session}
use Rattle.abi.proofs.Turns.{held_full}

-- the session that bytes hold, by the head that is read of them
held_head : (s : List ℕ) (x : Session) → decode_of s ≡ value x → x ≡ full (head_in s) (behind_in s)
held_head s x d = held_full s x d ∙ ap (λ (y : Core). full y (behind_in s)) (head_long s (given s x d).enough)

-- THEY ARE A SESSION; they are too few; they are none
pub good : (f : Session → Read) (s w : List ℕ) {h : Core} {z : Kept} → h ≡ head_in s → kept_as (session_in s) z ≡ decode_of s → z ≡ k.Good
    → f (full h (behind_in s)) ≡ of_session (decode_of s) f w
good f s w e d g =
    let v : value (session_in s) ≡ decode_of s = sym (ap (kept_as (session_in s)) g) ∙ d in
    ap (λ (y : Core). f (full y (behind_in s))) e ∙ sym (ap f (held_head s (session_in s) (sym v))) ∙ ap (λ (o : Outcome Session). of_session o f w) v

pub short : (f : Session → Read) (s w : List ℕ) {z : Kept} → kept_as (session_in s) z ≡ decode_of s → z ≡ k.Short → reads 21 w ≡ of_session (decode_of s) f w
short f s w d g = ap (λ (o : Outcome Session). of_session o f w) (sym (ap (kept_as (session_in s)) g) ∙ d)

pub none : (f : Session → Read) (s w : List ℕ) {z : Kept} → kept_as (session_in s) z ≡ decode_of s → z ≡ k.NoSession → reads 20 w ≡ of_session (decode_of s) f w
none f s w d g = ap (λ (o : Outcome Session). of_session o f w) (sym (ap (kept_as (session_in s)) g) ∙ d)

-- ROOM for so many bytes, or none
pub no_room : (n : ℕ) (w : List ℕ) (y : Read) → length w < n → reads 21 w ≡ pick (ltb (length w) n) (reads 21 w) y
no_room n w y h = ap (λ (b : Bool). pick b (reads 21 w) y) (sym (lt-ltb (length w) n h))

pub has_room_lem : (n : ℕ) (w : List ℕ) (y : Read) → n ≤ length w → y ≡ pick (ltb (length w) n) (reads 21 w) y
has_room_lem n w y h = ap (λ (b : Bool). pick b (reads 21 w) y) (sym (le-ltb (length w) n h))

-- the time for it, or not
pub in_time_lem : {b : Bool} (y z : Read) → b ≡ true → y ≡ pick b y z
in_time_lem y z e = ap (λ (b : Bool). pick b y z) (sym e)

pub out_of_time : {b : Bool} (y z : Read) → b ≡ false → z ≡ pick b y z
out_of_time y z e = ap (λ (b : Bool). pick b y z) (sym e)

-- a number, and what `out` then holds, by both
pub both : {n : ℕ} {w : List ℕ} {r : Read} → reads n w ≡ r → (n ≡ r.code) × (w ≡ r.out)
both e = (ap (λ (r : Read). r.code) e, ap (λ (r : Read). r.out) e)
