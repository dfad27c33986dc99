use borrow.Author.Rules.{rules}
use mathlib.Core.Path.{ap, ◌∙◌}
use Rattle.words.specs.Words.{put_words}
use Rattle.words_session.proofs.Laws.{stored}
use Rattle.results.specs.Results.{outcome_words}
use Rattle.fw_plan.specs.Calls.{outcome_of}
use Rattle.session.specs.Core.{full}
use Rattle.behind.specs.Behind.{behind_in}
use Rattle.abi.specs.Readers.{reads, result_known}
use Rattle.abi.proofs.Readers.{gives, outcome_length}
use Rattle.readers.proofs.Laws.{no_room, both}
use Rattle.readers.proofs.give_result.Goals as goal

pub returns-then-out-lt-RESULT : goal.returns-then-out-lt-RESULT
unfolding result_known
returns-then-out-lt-RESULT c =
    let p = c.args in
    let x = full p.s (behind_in p.state.now) in
    let w = p.out.now in
    let parts = both (no_room 40 w (reads 0 (put_words w 0 (outcome_words x.books.lists.slots (outcome_of x)))) c.if-out-lt-RESULT.true) in record { value = parts.0; out_after = parts.1 }

pub returns : goal.returns
unfolding result_known
returns c =
    let p = c.args in
    let x = full p.s (behind_in p.state.now) in
    let w = p.out.now in
    let h = c.if-out-lt-RESULT.false in
    let g = both (gives 5 w (outcome_words x.books.lists.slots (outcome_of x)) h) in
    record { value = g.0; out_after = stored w 0 5 c.store.ensures (c.outcome_words-w.ensures ∙ ap (outcome_words x.books.lists.slots) (c.outcome.ensures (behind_in p.state.now))) (outcome_length x.books.lists.slots (outcome_of x)) h ∙ g.1 }
