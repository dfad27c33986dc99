use Rattle.std.proofs.Common.{◌≡◌, ℕ, ◌+◌, ◌-◌, ◌^◌, ◌<◌, List, length, sym, ap, subst, ◌∙◌, rules, arith}
use Rattle.dma.specs.Blocks.{block_of}
use Rattle.dma.specs.PageList.{list_at, entry_at, first_blocks, behind, listed_of}
use Rattle.dma.specs.declared.Block.{Block}
use Rattle.dma.specs.declared.Cutter.{Cutter}
use Rattle.dma.specs.declared.Listed.{Listed}
use Rattle.dma.proofs.Lists.{first_none, behind_none, first-turn, behind-turn, list-turn, ended, word_fits, cut_none, cut_some}
use Rattle.dma.proofs.list_blocks.Goals as goal

pub returns-in_default : goal.returns-in_default
returns-in_default c = let a = c.args in let l = c.loop-n in
    let z = cut_none a.largest l.rest c.in_default.ensures in
    let parts = ended a.largest a.capacity l.n a.c l.rest l.inbox a.inbox.now
    (first_none a.largest l.rest (a.capacity - l.n) z) (behind_none a.largest l.rest (a.capacity - l.n) z) l.invariant.listed l.invariant.counted l.invariant.left in record { value = parts.0; inbox_after = parts.1 }

pub put_entry-requires : goal.put_entry-requires
put_entry-requires c = let a = c.args in let l = c.loop-n in
    let fits : l.rest.phys < 2 ^ 64 = search rules in
    let next = cut_some a.largest l.rest c.in-Some.block c.in-Some.behind c.in-Some.ensures in (
      omega arith,
      rw next.block (word_fits a.largest l.rest (omega (arith, next.more)) fits),
    )

pub loop-n-preserved : goal.loop-n-preserved
loop-n-preserved c = let a = c.args in let l = c.loop-n in
    let next = cut_some a.largest l.rest c.in-Some.block c.in-Some.behind c.in-Some.ensures in
    let h = c.loop-n-test.true in let z = next.more in let e = c.put_entry.ensures in
    record {
      listed = ap (λ (x : List ℕ). list_at x (l.n + 1) (first_blocks a.largest (a.capacity - (l.n + 1)) c.in-Some.behind)) e
          ∙ ap (λ (b : Block). list_at (entry_at l.inbox l.n b) (l.n + 1) (first_blocks a.largest (a.capacity - (l.n + 1)) c.in-Some.behind)) next.block
          ∙ ap (λ (r : Cutter). list_at (entry_at l.inbox l.n (block_of a.largest l.rest)) (l.n + 1) (first_blocks a.largest (a.capacity - (l.n + 1)) r)) next.rest
          ∙ list-turn a.largest l.rest l.n a.capacity h z l.inbox
          ∙ l.invariant.listed;
      counted = omega (
        arith,
        ap (λ (r : Cutter). length (first_blocks a.largest (a.capacity - (l.n + 1)) r)) next.rest,
        ap length (first-turn a.largest l.rest l.n a.capacity h z),
        l.invariant.counted,
      );
      left = ap (behind a.largest (a.capacity - (l.n + 1))) next.rest ∙ sym (behind-turn a.largest l.rest l.n a.capacity h z) ∙ l.invariant.left;
    }

pub returns : goal.returns
unfolding first_blocks behind
returns c = let a = c.args in let l = c.loop-n in
    let full : a.capacity ≡ l.n = omega arith in
    let z : a.capacity - l.n ≡ 0 = omega arith in
    let parts = ended a.largest a.capacity l.n a.c l.rest l.inbox a.inbox.now
    (ap (λ (k : ℕ). first_blocks a.largest k l.rest) z) (ap (λ (k : ℕ). behind a.largest k l.rest) z) l.invariant.listed l.invariant.counted l.invariant.left in
    let Lists : ℕ → Type 0 = λ k. ◌≡◌ {A = Listed} (record { entries = k; rest = l.rest }) (listed_of a.largest a.capacity a.c) in
    record { value = subst Lists (sym full) parts.0; inbox_after = parts.1 }
