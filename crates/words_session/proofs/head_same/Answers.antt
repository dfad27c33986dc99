use mathlib.Core.Path.{◌≡◌, refl, ap, sym, ◌∙◌}
use borrow.Author.Tests.{not-true, not-false}
use Rattle.words.specs.Places.{ledger_at, told_at}
use Rattle.words.specs.Words.{same_words}
use Rattle.words_books.specs.Coding.{ledger_words}
use Rattle.words_books.specs.declared.Ledger.{Ledger}
use Rattle.words_info.specs.Coding.{told_words}
use Rattle.words_info.specs.declared.Told.{Told}
use Rattle.words_session.proofs.Laws.{and_no, and_yes}
use borrow.Author.Rules.{rules}
use mathlib.Core.Bool.{not}
use Rattle.words_session.proofs.head_same.Goals as goal

pub returns-then-not-counted : goal.returns-then-not-counted
returns-then-not-counted c = and_no _ _ (sym c.counted.ensures ∙ not-true c.counted.result (ap not c.if-not-counted.true))

pub returns-then-not-task_stands : goal.returns-then-not-task_stands
returns-then-not-task_stands c = and_yes _ _ (sym c.counted.ensures ∙ not-false c.counted.result (ap not c.if-not-counted.false)) (and_no _ _ (sym c.task_stands.ensures ∙ not-true c.task_stands.result (ap not c.if-not-task_stands.true)))

pub returns-then-not-stage_stands : goal.returns-then-not-stage_stands
returns-then-not-stage_stands c = and_yes _ _ (sym c.counted.ensures ∙ not-false c.counted.result (ap not c.if-not-counted.false)) (and_yes _ _ (sym c.task_stands.ensures ∙ not-false c.task_stands.result (ap not c.if-not-task_stands.false)) (and_no _ _ (sym c.stage_stands.ensures ∙ not-true c.stage_stands.result (ap not c.if-not-stage_stands.true))))

pub returns-then-not-ledger_stands : goal.returns-then-not-ledger_stands
returns-then-not-ledger_stands c =
    and_yes _ _ (sym c.counted.ensures ∙ not-false c.counted.result (ap not c.if-not-counted.false)) (and_yes _ _ (sym c.task_stands.ensures ∙ not-false c.task_stands.result (ap not c.if-not-task_stands.false)) (and_yes _ _ (sym c.stage_stands.ensures ∙ not-false c.stage_stands.result (ap not c.if-not-stage_stands.false))
    (and_no _ _ (sym (c.ledger_stands.ensures ∙ ap (λ (t : Ledger). same_words c.args.s.now ledger_at (ledger_words t)) c.ledger_of.ensures) ∙ not-true c.ledger_stands.result (ap not c.if-not-ledger_stands.true)))))

pub returns : goal.returns
returns c =
    and_yes _ _ (sym c.counted.ensures ∙ not-false c.counted.result (ap not c.if-not-counted.false)) (and_yes _ _ (sym c.task_stands.ensures ∙ not-false c.task_stands.result (ap not c.if-not-task_stands.false)) (and_yes _ _ (sym c.stage_stands.ensures ∙ not-false c.stage_stands.result (ap not c.if-not-stage_stands.false))
    (and_yes _ _ (sym (c.ledger_stands.ensures ∙ ap (λ (t : Ledger). same_words c.args.s.now ledger_at (ledger_words t)) c.ledger_of.ensures) ∙ not-false c.ledger_stands.result (ap not c.if-not-ledger_stands.false))
    (c.told_stands.ensures ∙ ap (λ (t : Told). same_words c.args.s.now told_at (told_words t)) c.told_of.ensures))))
