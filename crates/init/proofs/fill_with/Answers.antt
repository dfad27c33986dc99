use Rattle.std.proofs.Common.{◌≡◌, ℕ, List, length, replicate, ap, ◌∙◌, arith}
use borrow.Author.Tests.{eq-eqb}
use Rattle.init.specs.Init.{put_all}
use Rattle.init.proofs.fill_with.Goals as goal

pub returns-clause-inbox_after : goal.returns-clause-inbox_after
returns-clause-inbox_after c = let n : length c.args.inbox.now ≡ 4096 = omega arith in
    rw (eq-eqb _ _ n) (c.put_all.ensures ∙ ap (λ (x : List ℕ). put_all x c.args.f.now) (c.zero.ensures ∙ ap (λ (k : ℕ). replicate k 0) n))
