use borrow.Author.Rules.{rules}
use mathlib.Core.Path.{ap, ◌∙◌}
use Rattle.words.specs.Words.{put_words}
use Rattle.words_session.proofs.Laws.{stored}
use Rattle.words_calls.specs.Calls.{question_words}
use Rattle.fw_plan.specs.Calls.{asks_of}
use Rattle.session.specs.Core.{full}
use Rattle.behind.specs.Behind.{behind_in}
use Rattle.abi.specs.Readers.{reads, question_known}
use Rattle.abi.proofs.Readers.{gives, question_length}
use Rattle.readers.proofs.Laws.{no_room, both}
use Rattle.readers.proofs.give_question.Goals as goal

pub returns-then-out-lt-QUESTION : goal.returns-then-out-lt-QUESTION
unfolding question_known
returns-then-out-lt-QUESTION c =
    let p = c.args in
    let x = full p.s (behind_in p.state.now) in
    let w = p.out.now in
    let parts = both (no_room 32 w (reads 0 (put_words w 0 (question_words (asks_of x)))) c.if-out-lt-QUESTION.true) in record { value = parts.0; out_after = parts.1 }

pub returns : goal.returns
unfolding question_known
returns c =
    let p = c.args in
    let x = full p.s (behind_in p.state.now) in
    let w = p.out.now in
    let h = c.if-out-lt-QUESTION.false in
    let g = both (gives 4 w (question_words (asks_of x)) h) in
    record { value = g.0; out_after = stored w 0 4 c.store.ensures (c.question_words-w.ensures ∙ ap question_words c.asks.ensures) (question_length (asks_of x)) h ∙ g.1 }
