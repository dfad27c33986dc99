use Rattle.std.proofs.Common.{ℕ, List, length, replicate, ap, ◌∙◌, eq-eqb}
use Rattle.dma.specs.PageList.{list_at, mailbox_of, first_blocks}
use Rattle.dma.proofs.fill.Goals as goal

pub returns-clause-inbox_after : goal.returns-clause-inbox_after
returns-clause-inbox_after c = let a = c.args in
    let same = c.if-inbox-ne-BYTES.false in
    rw (eq-eqb (length a.inbox.now) 4096 same) (
    c.list_blocks.ensures.inbox_after
    ∙ ap (λ (x : List ℕ). list_at x 0 (first_blocks a.largest c.min.result a.c)) (c.zero.ensures ∙ ap (λ (k : ℕ). replicate k 0) same)
    ∙ ap (λ (k : ℕ). mailbox_of (first_blocks a.largest k a.c)) c.min.ensures
    )
