use borrow.Author.Rules.{rules}
use mathlib.Core.Bool.{Bool}
use mathlib.Core.Path.{refl, ap, sym, ◌∙◌}
use Rattle.fields.specs.Outcome.{pick}
use Rattle.words_calls.specs.Calls.{heard_of}
use Rattle.in_place.specs.InPlace.{next_heard, first_words}
use Rattle.in_place.specs.declared.Next.TheVariants as n
use Rattle.abi.specs.Calls.{told}
use Rattle.abi.proofs.Calls.{goes, stays}
use Rattle.abi.proofs.Polled.{goes_holds}
use Rattle.abi.proofs.Turns.{whole}
use Rattle.turn_answer.proofs.answered.Goals as goal

pub returns-then-goes_on : goal.returns-then-goes_on
unfolding told
returns-then-goes_on c =
    let p = c.args in
    let h = heard_of p.kind p.a p.b in
    let z = c.next_at-next.result in
    let led = c.next_at-next.ensures p.b ∙ sym (ap (λ (q : Bool). pick q (next_heard (first_words p.state.now) h) n.Other) (sym c.is_ready.ensures ∙ c.if-is_ready.true)) in
    let on = sym c.goes_on.ensures ∙ c.if-goes_on.true in (
      whole c.go_on.ensures.value c.go_on.ensures.state_after refl refl c.go_on.ensures.out_after ∙ goes p.resource.now p.top p.state.now p.inbox.now p.outbox.now p.out.now h z led on,
      goes_holds p.resource.now p.top p.state.now p.inbox.now p.outbox.now p.out.now (λ k. (c.slice_known-1.given k).fits) h z led on _ c.go_on.ensures.state_after,
    )

pub returns-then-is_ready : goal.returns-then-is_ready
unfolding told
returns-then-is_ready c =
    let p = c.args in
    let h = heard_of p.kind p.a p.b in
    let led = c.next_at-next.ensures p.b ∙ sym (ap (λ (q : Bool). pick q (next_heard (first_words p.state.now) h) n.Other) (sym c.is_ready.ensures ∙ c.if-is_ready.true)) in
    let off = sym c.goes_on.ensures ∙ c.if-goes_on.false in
    (c.answered_whole.ensures.out_after ∙ stays p.resource.now p.top p.state.now p.inbox.now p.outbox.now p.out.now h c.next_at-next.result led off, c.answered_whole.ensures.holds)

pub returns : goal.returns
unfolding told
returns c =
    let p = c.args in
    let h = heard_of p.kind p.a p.b in
    let led = sym (ap (λ (q : Bool). pick q (next_heard (first_words p.state.now) h) n.Other) (sym c.is_ready.ensures ∙ c.if-is_ready.false)) in
    (c.answered_whole-2.ensures.out_after ∙ stays p.resource.now p.top p.state.now p.inbox.now p.outbox.now p.out.now h n.Other led refl, c.answered_whole-2.ensures.holds)
