-- The rule of the table of entry sizes, proved once over the table; and the loop that reads it.
use Prim.Native.Nat.{ℕ, zero, suc, ◌+◌, ◌≤◌, ◌<◌}
use mathlib.Core.Bool.{Bool, true, false, ◌&&◌, not}
use mathlib.Core.Path.{◌≡◌, refl, ap, ◌∙◌}
use mathlib.Core.List.{List, [], ◌∷◌}
use native.Mathlib.Nat.{le_of_suc-le-suc}
use native.Mathlib.Numerals.{add-one}
use native.Mathlib.Omega.{arith}
use borrow.Author.Tests.{eqb-false, not-true}
use lib.Dec.{T, leb, ltb, eqb, leb→le, ltb→lt}
use lib.ListN.{length, get_or, drop, set, length-set}
use lib.Seq.{drop-cons, get_or-set_same, get_or-set_other}
use Rattle.fields.specs.Fields.{be}
use Rattle.reply.specs.declared.Place.{Place}
use Rattle.reply.specs.Capability.{entry_places, read_into, entries_of}

abbrev pub nowhere : Place
nowhere = record { table = 0; offset = 0 }

-- no place of the list has this table
without : ℕ → List Place → Bool
without t [] = true
without t (p ∷ ps) = not (eqb t p.table) && without t ps

-- each place names a table that no later one names, within the eleven, and a field within the 168 bytes
right : List Place → Bool
right [] = true
right (p ∷ ps) = (ltb p.table 11 && leb (p.offset + 2) 168) && (without p.table ps && right ps)

both : (a b : Bool) → T (a && b) → T a × T b
both true true t = (tt, tt)
both true false t = absurd t
both false b t = absurd t

-- what the test says of place k
within : (ps : List Place) → T (right ps) → (k : ℕ) → k < length ps → ((get_or ps k nowhere).table < 11) × ((get_or ps k nowhere).offset + 2 ≤ 168)
unfolding right
within [] t k h = absurd (omega arith)
within (p ∷ ps) t zero h =
    let a = (both (ltb p.table 11 && leb (p.offset + 2) 168) (without p.table ps && right ps) t).0 in
    let b = both (ltb p.table 11) (leb (p.offset + 2) 168) a in
    (ltb→lt p.table 11 b.0, leb→le (p.offset + 2) 168 b.1)
within (p ∷ ps) t (suc k) h =
    let a = (both (ltb p.table 11 && leb (p.offset + 2) 168) (without p.table ps && right ps) t).1 in
    within ps (both (without p.table ps) (right ps) a).1 k (le_of_suc-le-suc h)

T_true : (b : Bool) → T b → b ≡ true
T_true true t = refl
T_true false t = absurd t

-- a table that no place names keeps its size
kept : (s : List ℕ) (ps : List Place) (out : List ℕ) (t : ℕ) → T (without t ps) → get_or (read_into s ps out) t 0 ≡ get_or out t 0
unfolding read_into without
kept s [] out t w = refl
kept s (p ∷ ps) out t w =
    let a = both (not (eqb t p.table)) (without t ps) w in
    kept s ps (set out p.table (be s p.offset 2)) t a.1
    ∙ get_or-set_other out p.table t (be s p.offset 2) 0 (eqb-false t p.table (not-true (eqb t p.table) (T_true (not (eqb t p.table)) a.0)))

-- each table that a place names gets the field at its offset
named : (s : List ℕ) (ps : List Place) (out : List ℕ) → T (right ps) → 11 ≤ length out → (k : ℕ) → k < length ps
    → get_or (read_into s ps out) (get_or ps k nowhere).table 0 ≡ be s (get_or ps k nowhere).offset 2
unfolding read_into right
named s [] out t l k h = absurd (omega arith)
named s (p ∷ ps) out t l zero h =
    let a = (both (ltb p.table 11 && leb (p.offset + 2) 168) (without p.table ps && right ps) t).1 in
    let b = within (p ∷ ps) t 0 h in
    kept s ps (set out p.table (be s p.offset 2)) p.table (both (without p.table ps) (right ps) a).0
    ∙ get_or-set_same out p.table (be s p.offset 2) 0 (omega arith)
named s (p ∷ ps) out t l (suc k) h =
    let a = (both (ltb p.table 11 && leb (p.offset + 2) 168) (without p.table ps && right ps) t).1 in
    named s ps (set out p.table (be s p.offset 2)) (both (without p.table ps) (right ps) a).1 (simp length-set l) k (le_of_suc-le-suc h)

-- The rule of the table: its ten places lie within the eleven tables and the 168 bytes, ..
pub place_within : (k : ℕ) → k < 10 → ((get_or entry_places k nowhere).table < 11) × ((get_or entry_places k nowhere).offset + 2 ≤ 168)
unfolding right without
place_within k h = within entry_places tt k h

-- .. and the entry size of each table that it names is the be16 at the offset beside it.
pub entry_rule : (s : List ℕ) (k : ℕ) → k < 10 → get_or (entries_of s) (get_or entry_places k nowhere).table 0 ≡ be s (get_or entry_places k nowhere).offset 2
unfolding right without
entry_rule s k h = named s entry_places _ tt (leb→le 11 11 tt) k h

pub read_more : (s : List ℕ) (ps : List Place) (k : ℕ) (out : List ℕ) → k < length ps
    → read_into s (drop (k + 1) ps) (set out (get_or ps k nowhere).table (be s (get_or ps k nowhere).offset 2)) ≡ read_into s (drop k ps) out
unfolding read_into
read_more s ps k out h =
    rw (drop-cons ps k nowhere h)
    (ap (λ (m : ℕ). read_into s (drop m ps) (set out (get_or ps k nowhere).table (be s (get_or ps k nowhere).offset 2))) (add-one k))
