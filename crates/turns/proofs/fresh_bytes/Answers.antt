use mathlib.Core.Bool.{Bool}
use mathlib.Core.List.{[]}
use mathlib.Core.Path.{ap, sym}
use borrow.Author.Rules.{rules}
use borrow.Author.Tests.{lt-ltb, le-ltb}
use lib.ListN.{length}
use Rattle.fields.specs.Outcome.{value, refused, number_of, pick}
use Rattle.words.specs.Places.{task_at, state_bytes}
use Rattle.words_session.specs.Image.{session_words}
use Rattle.behind.proofs.Laws.{put_short}
use Rattle.session.specs.Session.{fresh}
use Rattle.abi.proofs.Kept.{fresh_held}
use Rattle.turns.proofs.fresh_bytes.Goals as goal

pub returns-then-state-lt-STATE_BYTES : goal.returns-then-state-lt-STATE_BYTES
returns-then-state-lt-STATE_BYTES c =
    let s = c.args.state.now in
    let code = sym (ap (λ (b : Bool). number_of {A = Unit {0}} (pick b (refused 21 []) (value tt))) (lt-ltb (length s) state_bytes c.if-state-lt-STATE_BYTES.true)) in
    let left = put_short task_at (session_words fresh) s c.if-state-lt-STATE_BYTES.true in
    record { value = code; state_after = left; fresh = fresh_held s s 21 code left }

pub put_fresh-requires : goal.put_fresh-requires
put_fresh-requires c = search rules

pub shape_of-state : goal.shape_of-state
shape_of-state c = search rules

pub returns : goal.returns
returns c =
    let s = c.args.state.now in
    let code = sym (ap (λ (b : Bool). number_of {A = Unit {0}} (pick b (refused 21 []) (value tt))) (le-ltb (length s) state_bytes c.if-state-lt-STATE_BYTES.false)) in
    let wrote = c.put_fresh.ensures in
    record { value = code; state_after = wrote; fresh = fresh_held s _ 0 code wrote }
