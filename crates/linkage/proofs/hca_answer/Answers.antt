use Rattle.std.proofs.Common.{◌≡◌, subst}
use Rattle.session.specs.declared.Top.{Top}
use Rattle.abi.specs.Turns.{after}
use Rattle.words_calls.specs.Calls.{heard_of}
use Rattle.abi.specs.Calls.{told}
use Rattle.abi.specs.Kept.{Holds, heard_next}
use Rattle.linkage.proofs.hca_answer.Goals as goal

-- what is answered with the newest record is what is answered with the list's
pub returns : goal.returns
returns c =
    let p = c.args in
    let z = c.answered in
    subst
    (λ (u : Top). (after z.result z.new.state z.new.inbox z.new.outbox z.new.out ≡ told p.kind p.a p.b p.resource.now u p.state.now p.inbox.now p.outbox.now p.out.now)
    × Holds p.state.now z.new.state (heard_next (heard_of p.kind p.a p.b) p.resource.now u p.inbox.now p.outbox.now p.out.now))
    c.top-top.ensures z.ensures
