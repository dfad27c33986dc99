use mathlib.Core.List.{[]}
use mathlib.Core.Path.{ap, sym, ◌∙◌}
use Rattle.fields.specs.Outcome.{value, refused}
use Rattle.words_session.specs.Image.{session_in, kept_as}
use Rattle.session.specs.Core.{full}
use Rattle.session.specs.declared.Session.{Session}
use Rattle.behind.specs.Behind.{behind_in}
use Rattle.abi.specs.Turns.{call_known, called}
use Rattle.abi.specs.Kept.{call_next}
use Rattle.abi.proofs.Turns.{on}
use Rattle.abi.proofs.Kept.{read_holds, none_holds}
use Rattle.calls.proofs.Laws.{head_held}
use borrow.Author.Rules.{rules}
use Rattle.calls.proofs.make.Goals as goal

pub keeps-requires : goal.keeps-requires
keeps-requires c = search rules

pub enum_told-1 : goal.enum_told-1
enum_told-1 c = search rules

pub head_at-s-requires : goal.head_at-s-requires
head_at-s-requires c = search rules

pub call_of-requires : goal.call_of-requires
call_of-requires c = search rules

pub enum_told-in-Short : goal.enum_told-in-Short
enum_told-in-Short c = search rules

pub enum_told-in-NoSession : goal.enum_told-in-NoSession
enum_told-in-NoSession c = search rules

pub shape_of-state-in-Good : goal.shape_of-state-in-Good
shape_of-state-in-Good c = search rules

pub shape_of-inbox : goal.shape_of-inbox
shape_of-inbox c = search rules

pub shape_of-outbox : goal.shape_of-outbox
shape_of-outbox c = search rules

pub shape_of-out : goal.shape_of-out
shape_of-out c = search rules

pub returns-in-Good : goal.returns-in-Good
unfolding called
returns-in-Good c =
    let a = c.args in
    let s = a.state.now in
    let x = full c.head_at-s.result (behind_in s) in
    let d = sym c.keeps.ensures ∙ ap (kept_as (session_in s)) c.in-Good.is in
    let reads = head_held s (session_in s) c.head_at-s.result d c.head_at-s.ensures in
    record { out_after = c.call_of.ensures.out_after ∙ on (value x) (λ (x : Session). call_known x a.call a.input.now a.top s a.inbox.now a.outbox.now a.out.now) s a.inbox.now a.outbox.now a.out.now (sym reads); holds = read_holds x s _ (call_next a.call a.input.now a.top a.inbox.now a.outbox.now a.out.now) reads c.call_of.ensures.keeps }

pub shape_of-state-in-Short : goal.shape_of-state-in-Short
shape_of-state-in-Short c = search rules

pub returns-in-Short : goal.returns-in-Short
unfolding called
returns-in-Short c =
    let a = c.args in
    let s = a.state.now in
    let d = sym (ap (kept_as (session_in s)) c.in-Short.is) ∙ c.keeps.ensures in
    record { out_after = on (refused 21 []) (λ (x : Session). call_known x a.call a.input.now a.top s a.inbox.now a.outbox.now a.out.now) s a.inbox.now a.outbox.now a.out.now d; holds = none_holds s s (call_next a.call a.input.now a.top a.inbox.now a.outbox.now a.out.now) 21 [] d }

pub shape_of-state-in-NoSession : goal.shape_of-state-in-NoSession
shape_of-state-in-NoSession c = search rules

pub returns-in-NoSession : goal.returns-in-NoSession
unfolding called
returns-in-NoSession c =
    let a = c.args in
    let s = a.state.now in
    let d = sym (ap (kept_as (session_in s)) c.in-NoSession.is) ∙ c.keeps.ensures in
    record { out_after = on (refused 20 []) (λ (x : Session). call_known x a.call a.input.now a.top s a.inbox.now a.outbox.now a.out.now) s a.inbox.now a.outbox.now a.out.now d; holds = none_holds s s (call_next a.call a.input.now a.top a.inbox.now a.outbox.now a.out.now) 20 [] d }
