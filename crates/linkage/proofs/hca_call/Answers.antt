use Rattle.std.proofs.Common.{◌≡◌, ℕ, Bool, drop, take, ap, subst, ◌∙◌}
use Rattle.session.specs.declared.Top.{Top}
use Rattle.undo.specs.List.{any_reserved, top_of}
use Rattle.abi.specs.Turns.{after}
use Rattle.abi.specs.Calls.{made, call_from}
use Rattle.abi.specs.Kept.{Holds, wanted_next}
use Rattle.linkage.proofs.hca_call.Goals as goal

-- what is called with the newest record, and with what was found above the mark, is what is called with the list
pub returns : goal.returns
returns c =
    let p = c.args in
    let z = c.called in
    let found = c.reserved_above-reserved.ensures ∙ ap (λ (m : ℕ). any_reserved (drop m (take p.count p.list.now))) c.mark_of.ensures in
    let Said : Bool → Top → Type 0 = λ g u.
    (after z.result z.new.state z.new.inbox z.new.outbox z.new.out ≡ made p.kind p.op p.op_mod p.in_mod p.value g p.input.now u p.state.now p.inbox.now p.outbox.now p.out.now)
    × Holds p.state.now z.new.state (wanted_next (call_from p.kind p.op p.op_mod p.in_mod p.value g) p.input.now u p.inbox.now p.outbox.now p.out.now) in
    subst (Said (any_reserved (drop p.value (take p.count p.list.now)))) c.top-top.ensures (subst (λ (g : Bool). Said g c.top-top.result) found z.ensures)
