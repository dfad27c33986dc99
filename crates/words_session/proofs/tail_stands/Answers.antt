use mathlib.Core.Path.{◌≡◌, refl, ap, sym, ◌∙◌}
use borrow.Author.Tests.{not-true, not-false}
use Rattle.words.specs.Words.{same_words}
use Rattle.session.specs.Core.{Behind}
use Rattle.words.specs.Places.{reset_at, find_at}
use Rattle.reset.specs.declared.Reset.{Reset}
use Rattle.uar.specs.declared.FindBar.{FindBar}
use Rattle.words_beside.specs.Coding.{reset_words, find_words}
use Rattle.behind.proofs.Laws.{long}
use Rattle.words_session.proofs.Laws.{and_no, and_yes, flags_here}
use borrow.Author.Rules.{rules}
use mathlib.Core.Bool.{not}
use Rattle.words_session.proofs.tail_stands.Goals as goal

pub returns-then-not-reset_stands : goal.returns-then-not-reset_stands
returns-then-not-reset_stands c =
    and_no _ _ (sym (c.reset_stands.ensures ∙ ap (λ (v : Reset). same_words c.args.s.now reset_at (reset_words v)) (c.reset_at.ensures ∙ ap (λ (b : Behind). b.reset) (long c.args.s.now c.requires))) ∙ not-true c.reset_stands.result (ap not c.if-not-reset_stands.true))

pub returns-then-not-find_stands : goal.returns-then-not-find_stands
returns-then-not-find_stands c =
    and_yes _ _ (sym (c.reset_stands.ensures ∙ ap (λ (v : Reset). same_words c.args.s.now reset_at (reset_words v)) (c.reset_at.ensures ∙ ap (λ (b : Behind). b.reset) (long c.args.s.now c.requires))) ∙ not-false c.reset_stands.result (ap not c.if-not-reset_stands.false))
    (and_no _ _ (sym (c.find_stands.ensures ∙ ap (λ (v : FindBar). same_words c.args.s.now find_at (find_words v)) (c.find_at.ensures ∙ ap (λ (b : Behind). b.find) (long c.args.s.now c.requires))) ∙ not-true c.find_stands.result (ap not c.if-not-find_stands.true)))

pub returns : goal.returns
returns c =
    and_yes _ _ (sym (c.reset_stands.ensures ∙ ap (λ (v : Reset). same_words c.args.s.now reset_at (reset_words v)) (c.reset_at.ensures ∙ ap (λ (b : Behind). b.reset) (long c.args.s.now c.requires))) ∙ not-false c.reset_stands.result (ap not c.if-not-reset_stands.false))
    (and_yes _ _ (sym (c.find_stands.ensures ∙ ap (λ (v : FindBar). same_words c.args.s.now find_at (find_words v)) (c.find_at.ensures ∙ ap (λ (b : Behind). b.find) (long c.args.s.now c.requires))) ∙ not-false c.find_stands.result (ap not c.if-not-find_stands.false))
    (c.slots_stand.ensures ∙ flags_here c.args.s.now c.requires))
