use borrow.Author.Rules.{rules}
use mathlib.Core.Path.{sym, ◌∙◌}
use lib.Dec.{ltb}
use lib.ListN.{length}
use Rattle.fields.specs.Outcome.{pick}
use Rattle.results.specs.Results.{setup_in}
use Rattle.session.specs.Core.{full}
use Rattle.behind.specs.Behind.{behind_in}
use Rattle.abi.specs.Readers.{reads, setup_known}
use Rattle.readers.proofs.Laws.{no_room, has_room_lem, in_time_lem, out_of_time, both}
use Rattle.readers.proofs.give_setup.Goals as goal

pub returns-then-out-lt-SETUP : goal.returns-then-out-lt-SETUP
unfolding setup_known
returns-then-out-lt-SETUP c =
    let p = c.args in
    let b = behind_in p.state.now in
    let w = p.out.now in
    let y = reads 0 (setup_in w (full p.s b).info) in
    let z = pick (ltb (length w) 1072) (reads 21 w) y in
    let idle = sym (c.is_idle.ensures b) ∙ c.if-is_idle.true in
    let parts = both (no_room 1072 w y c.if-out-lt-SETUP.true ∙ in_time_lem z (reads 20 w) idle) in record { value = parts.0; out_after = parts.1 }

pub returns-then-is_idle : goal.returns-then-is_idle
unfolding setup_known
returns-then-is_idle c =
    let p = c.args in
    let b = behind_in p.state.now in
    let w = p.out.now in
    let y = reads 0 (setup_in w (full p.s b).info) in
    let z = pick (ltb (length w) 1072) (reads 21 w) y in
    let idle = sym (c.is_idle.ensures b) ∙ c.if-is_idle.true in
    let g = both (has_room_lem 1072 w y c.if-out-lt-SETUP.false ∙ in_time_lem z (reads 20 w) idle) in
    record { value = g.0; out_after = c.put_setup.ensures ∙ g.1 }

pub returns : goal.returns
unfolding setup_known
returns c =
    let p = c.args in
    let b = behind_in p.state.now in
    let w = p.out.now in
    let y = reads 0 (setup_in w (full p.s b).info) in
    let z = pick (ltb (length w) 1072) (reads 21 w) y in
    let idle = sym (c.is_idle.ensures b) ∙ c.if-is_idle.false in
    let parts = both (out_of_time z (reads 20 w) idle) in record { value = parts.0; out_after = parts.1 }
