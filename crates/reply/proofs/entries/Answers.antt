use Prim.Native.Nat.{ℕ, ◌+◌}
use mathlib.Core.Path.{◌≡◌, ap, sym, ◌∙◌}
use mathlib.Core.List.{List, []}
use native.Mathlib.Omega.{arith}
use lib.ListN.{drop, get_or, set, length-set, drop_of_length-le}
use Rattle.reply.specs.declared.Place.{Place}
use Rattle.reply.specs.Capability.{entry_places, read_into}
use Rattle.reply.proofs.Laws.{nowhere, place_within, read_more}
use Rattle.reply.proofs.entries.Goals as goal

pub be16-requires : goal.be16-requires
be16-requires c = let r = place_within c.loop-place.place-index (omega arith) in omega arith

pub offset_bounds-out-place : goal.offset_bounds-out-place
offset_bounds-out-place c = let r = place_within c.loop-place.place-index (omega arith) in omega arith

pub bounds-out-place : goal.bounds-out-place
bounds-out-place c = let r = place_within c.loop-place.place-index (omega arith) in omega arith

pub loop-place-preserved : goal.loop-place-preserved
loop-place-preserved c = let l = c.loop-place in let s = c.args.reply.now in let k = l.place-index in (
  simp length-set l.invariant.0,
  ap (λ (v : ℕ). read_into s (drop (k + 1) entry_places) (set l.out (get_or entry_places k nowhere).table v)) c.be16.ensures
      ∙ read_more s entry_places k l.out (omega arith)
      ∙ l.invariant.1,
)

pub returns : goal.returns
unfolding read_into
returns c = let l = c.loop-place in let e : drop l.place-index entry_places ≡ [] = drop_of_length-le entry_places {i = l.place-index} (omega arith) in
    sym (ap (λ (ps : List Place). read_into c.args.reply.now ps l.out) e) ∙ l.invariant.1
