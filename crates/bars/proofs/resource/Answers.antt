use Rattle.std.proofs.Common.{ℕ, ◌+◌, drop, sym, ap, ◌∙◌, arith}
use borrow.Author.Rules.{part_to_end}
use Rattle.bars.specs.Resource.{length_in, walk}
use Rattle.bars.proofs.Walk.{walk_out, walk_other, walk_cut, walk_memory, walk_passed}
use Rattle.bars.proofs.resource.Goals as goal

pub returns-then-rest : goal.returns-then-rest
returns-then-rest c = let l = c.loop-rest in
    sym (walk_other l.rest.now (omega arith) c.if-rest.true) ∙ l.invariant

pub returns-then-rest-le-TYPE : goal.returns-then-rest-le-TYPE
returns-then-rest-le-TYPE c = let l = c.loop-rest in
    sym (walk_cut l.rest.now (omega arith) (omega arith) c.if-rest.false) ∙ l.invariant

pub returns-then-rest-eq-MEMORY : goal.returns-then-rest-eq-MEMORY
returns-then-rest-eq-MEMORY c = let l = c.loop-rest in
    c.memory.ensures ∙ sym (walk_memory l.rest.now (omega arith) c.if-rest.false c.if-rest-eq-MEMORY.true) ∙ l.invariant

pub returns-then-rest-n : goal.returns-then-rest-n
returns-then-rest-n c = let l = c.loop-rest in
    let r = l.rest.now in
    let e = c.length_of-n.ensures.0 in
    sym (walk_passed r (omega arith) c.if-rest.false c.if-rest-eq-MEMORY.false ∙ walk_out r (3 + length_in r) (omega arith)) ∙ l.invariant

pub loop-rest-preserved : goal.loop-rest-preserved
loop-rest-preserved c = let l = c.loop-rest in
    let r = l.rest.now in
    ap (walk 0) (part_to_end r (3 + c.length_of-n.result))
    ∙ ap (λ (k : ℕ). walk 0 (drop (3 + k) r)) c.length_of-n.ensures.0
    ∙ sym (walk_passed r (omega arith) c.if-rest.false c.if-rest-eq-MEMORY.false)
    ∙ l.invariant

pub returns : goal.returns
returns c = let l = c.loop-rest in
    sym (walk_out l.rest.now 0 (omega arith)) ∙ l.invariant
