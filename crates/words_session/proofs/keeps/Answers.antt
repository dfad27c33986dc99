use mathlib.Core.Path.{◌≡◌, refl, ap, sym, ◌∙◌}
use mathlib.Core.Bool.{true, false}
use borrow.Author.Tests.{lt-ltb, not-true, not-false}
use Rattle.behind.specs.Behind.{behind_from}
use Rattle.words_session.specs.Image.{core_in, head_stands, behind_stands}
use Rattle.words_session.proofs.Laws.{and_no, and_yes, is_kept}
use borrow.Author.Rules.{rules}
use mathlib.Core.Bool.{not}
use Rattle.words_session.proofs.keeps.Goals as goal

pub returns-then-s-lt-STATE_BYTES : goal.returns-then-s-lt-STATE_BYTES
returns-then-s-lt-STATE_BYTES c = rw (lt-ltb _ _ c.if-s-lt-STATE_BYTES.true) refl

pub returns-then-not-head_same : goal.returns-then-not-head_same
returns-then-not-head_same c =
    is_kept c.args.s.now {b = false} (sym (and_no (head_stands c.args.s.now (core_in c.args.s.now)) (behind_stands c.args.s.now (behind_from c.args.s.now)) (sym (c.head_same.ensures ∙ ap (head_stands c.args.s.now) c.head_in.ensures) ∙ not-true c.head_same.result (ap not c.if-not-head_same.true)))) c.if-s-lt-STATE_BYTES.false

pub returns-then-not-behind_stands : goal.returns-then-not-behind_stands
returns-then-not-behind_stands c =
    is_kept c.args.s.now {b = false} (sym (and_yes (head_stands c.args.s.now (core_in c.args.s.now)) (behind_stands c.args.s.now (behind_from c.args.s.now)) (sym (c.head_same.ensures ∙ ap (head_stands c.args.s.now) c.head_in.ensures) ∙ not-false c.head_same.result (ap not c.if-not-head_same.false))
    (sym (sym c.behind_stands.ensures ∙ not-true c.behind_stands.result (ap not c.if-not-behind_stands.true))))) c.if-s-lt-STATE_BYTES.false

pub returns : goal.returns
returns c =
    is_kept c.args.s.now {b = true} (sym (and_yes (head_stands c.args.s.now (core_in c.args.s.now)) (behind_stands c.args.s.now (behind_from c.args.s.now)) (sym (c.head_same.ensures ∙ ap (head_stands c.args.s.now) c.head_in.ensures) ∙ not-false c.head_same.result (ap not c.if-not-head_same.false))
    (sym (sym c.behind_stands.ensures ∙ not-false c.behind_stands.result (ap not c.if-not-behind_stands.false))))) c.if-s-lt-STATE_BYTES.false
