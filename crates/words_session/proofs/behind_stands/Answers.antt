use mathlib.Core.Path.{◌≡◌, refl, ap, sym, ◌∙◌}
use native.Mathlib.Omega.{arith}
use borrow.Author.Tests.{not-true, not-false}
use Rattle.words.specs.Words.{same_words}
use Rattle.session.specs.Core.{Behind}
use Rattle.words.specs.Places.{cap_at, port1_at, port2_at}
use Rattle.reply.specs.declared.DevCap.{DevCap}
use Rattle.reply.specs.declared.PortInfo.{PortInfo}
use Rattle.words_info.specs.Coding.{cap_words, port_words}
use Rattle.behind.proofs.Laws.{long}
use Rattle.words_session.proofs.Laws.{and_no, and_yes}
use borrow.Author.Rules.{rules}
use mathlib.Core.Bool.{not}
use Rattle.words_session.proofs.behind_stands.Goals as goal

pub port_stands-requires : goal.port_stands-requires
port_stands-requires c = let h = c.requires in (omega arith, omega arith)

pub port_stands-requires-2 : goal.port_stands-requires-2
port_stands-requires-2 c = let h = c.requires in (omega arith, omega arith)

pub returns-then-not-cap_stands : goal.returns-then-not-cap_stands
returns-then-not-cap_stands c =
    and_no _ _ (sym (c.cap_stands.ensures ∙ ap (λ (v : DevCap). same_words c.args.s.now cap_at (cap_words v)) (c.cap_at.ensures ∙ ap (λ (b : Behind). b.cap) (long c.args.s.now c.requires))) ∙ not-true c.cap_stands.result (ap not c.if-not-cap_stands.true))

pub returns-then-not-port_stands : goal.returns-then-not-port_stands
returns-then-not-port_stands c =
    and_yes _ _ (sym (c.cap_stands.ensures ∙ ap (λ (v : DevCap). same_words c.args.s.now cap_at (cap_words v)) (c.cap_at.ensures ∙ ap (λ (b : Behind). b.cap) (long c.args.s.now c.requires))) ∙ not-false c.cap_stands.result (ap not c.if-not-cap_stands.false))
    (and_no _ _ (sym (c.port_stands.ensures ∙ ap (λ (v : PortInfo). same_words c.args.s.now port1_at (port_words v)) (c.port_at.ensures ∙ ap (λ (b : Behind). b.port1) (long c.args.s.now c.requires))) ∙ not-true c.port_stands.result (ap not c.if-not-port_stands.true)))

pub returns-then-not-port_stands-2 : goal.returns-then-not-port_stands-2
returns-then-not-port_stands-2 c =
    and_yes _ _ (sym (c.cap_stands.ensures ∙ ap (λ (v : DevCap). same_words c.args.s.now cap_at (cap_words v)) (c.cap_at.ensures ∙ ap (λ (b : Behind). b.cap) (long c.args.s.now c.requires))) ∙ not-false c.cap_stands.result (ap not c.if-not-cap_stands.false))
    (and_yes _ _ (sym (c.port_stands.ensures ∙ ap (λ (v : PortInfo). same_words c.args.s.now port1_at (port_words v)) (c.port_at.ensures ∙ ap (λ (b : Behind). b.port1) (long c.args.s.now c.requires))) ∙ not-false c.port_stands.result (ap not c.if-not-port_stands.false))
    (and_no _ _ (sym (c.port_stands-2.ensures ∙ ap (λ (v : PortInfo). same_words c.args.s.now port2_at (port_words v)) (c.port_at-2.ensures ∙ ap (λ (b : Behind). b.port2) (long c.args.s.now c.requires))) ∙ not-true c.port_stands-2.result (ap not c.if-not-port_stands-2.true))))

pub returns : goal.returns
returns c =
    and_yes _ _ (sym (c.cap_stands.ensures ∙ ap (λ (v : DevCap). same_words c.args.s.now cap_at (cap_words v)) (c.cap_at.ensures ∙ ap (λ (b : Behind). b.cap) (long c.args.s.now c.requires))) ∙ not-false c.cap_stands.result (ap not c.if-not-cap_stands.false))
    (and_yes _ _ (sym (c.port_stands.ensures ∙ ap (λ (v : PortInfo). same_words c.args.s.now port1_at (port_words v)) (c.port_at.ensures ∙ ap (λ (b : Behind). b.port1) (long c.args.s.now c.requires))) ∙ not-false c.port_stands.result (ap not c.if-not-port_stands.false))
    (and_yes _ _ (sym (c.port_stands-2.ensures ∙ ap (λ (v : PortInfo). same_words c.args.s.now port2_at (port_words v)) (c.port_at-2.ensures ∙ ap (λ (b : Behind). b.port2) (long c.args.s.now c.requires))) ∙ not-false c.port_stands-2.result (ap not c.if-not-port_stands-2.false)) c.tail_stands.ensures))
