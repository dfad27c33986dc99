use Rattle.std.proofs.Common.{◌≡◌, ℕ, ◌+◌, ◌-◌, ◌≤◌, List, ◌++◌, Option, rules, length, take, sym, ap, ◌∙◌, subst, le_refl, length-take-le}
use Rattle.std.proofs.lemmas.Slice.{take-put_mid_below}
use Rattle.std.proofs.lemmas.List.{take-append-le}
use Rattle.std.proofs.Math.Seq.{take-append-add}
use Rattle.std.specs.Io.KnownBytes.{Consumes, Keeps}
use Rattle.std.proofs.KnownBytes.{Consumes-trans, Consumes-kept}
use borrow.Rule.Slice.PartMut.{put_mid, post_of}
use Rattle.stored.proofs.input.part.Goals as goal
use Rattle.stored.proofs.input.part.Goals.{in-Ok, in-Err+else-ne}

-- what a read put behind the first bytes, beside these
joined : (at n k : ℕ) (xs ys : List ℕ) → at ≤ length xs → n ≤ length ys → take (at + n) (put_mid at k xs ys) ≡ take at xs ++ take n ys
joined at n k xs ys within fits =
    subst (λ m. take (m + n) (put_mid at k xs ys) ≡ take at xs ++ take n ys) (length-take-le at xs within)
    (take-append-add (take at xs) (ys ++ post_of at k xs) n ∙ ap (λ l. take at xs ++ l) (take-append-le n ys (post_of at k xs) fits))

-- a read that gave n bytes, and one that failed
more : (a b c : Option (List ℕ)) (at n m k : ℕ) (xs ys : List ℕ) → m ≡ at + n → at ≤ length xs → n ≤ length ys
    → Consumes a b (take at xs) → Consumes b c (take n ys) → Consumes a c (take m (put_mid at k xs ys))
more a b c at n m k xs ys sum within fits first second =
    subst (λ i. Consumes a c (take i (put_mid at k xs ys))) (sym sum) (subst (Consumes a c) (sym (joined at n k xs ys within fits)) (Consumes-trans a b c _ _ first second))

kept : (a b c : Option (List ℕ)) (at m k : ℕ) (xs ys : List ℕ) → m ≡ at → at ≤ length xs → Consumes a b (take at xs) → Keeps b c
    → Consumes a c (take m (put_mid at k xs ys))
kept a b c at m k xs ys same within first keeps =
    subst (λ i. Consumes a c (take i (put_mid at k xs ys))) (sym same)
    (subst (Consumes a c) (sym (take-put_mid_below at k xs ys at (le_refl at) within)) (Consumes-kept a b c _ first keeps))

pub loop-preserved : goal.loop-preserved
loop-preserved g c =
    let room = length c.loop.room - c.loop.at in
    let now = g.R.Read.remaining c.loop.input in
    let within = c.loop.invariant.1 in
    let first = c.loop.invariant.2 in
    elim c.match-read.branch [
      | in-Ok w ↦ (search rules, search rules, more _ now _ _ w.in-Ok.n _ room _ _ w.at-is within w.in-Ok.ensures.bound.0 first w.in-Ok.ensures.bytes.0)
      | in-Err+else-ne w ↦ (search rules, search rules, kept _ now _ _ _ room _ _ w.at-is within first w.in-Err.ensures.bytes)
    ]
