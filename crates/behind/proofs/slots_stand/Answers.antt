use Prim.Native.Nat.{◌+◌, ◌-◌, ◌*◌, ◌≤◌}
use mathlib.Core.Path.{◌≡◌, refl, ap, sym, ◌∙◌}
use native.Mathlib.Omega.{arith}
use borrow.Author.Tests.{lt-ltb, le-ltb, not-true, not-false}
use Rattle.words.specs.Places.{SLOT, SLOTS, slots_at}
use Rattle.behind.specs.Behind.{flags_stand}
use Rattle.behind.proofs.Laws.{flags_turn, flags_end}
use mathlib.Core.Bool.{not}
use Rattle.behind.proofs.slots_stand.Goals as goal

pub returns-then-m-lt-STATE_BYTES : goal.returns-then-m-lt-STATE_BYTES
returns-then-m-lt-STATE_BYTES c = rw (lt-ltb _ _ c.if-m-lt-STATE_BYTES.true) refl

pub loop-i-init : goal.loop-i-init
loop-i-init c = refl

pub flag_stands-requires : goal.flag_stands-requires
flag_stands-requires c = (omega arith, omega arith)

pub returns-then-not-flag_stands : goal.returns-then-not-flag_stands
returns-then-not-flag_stands c =
    let p = c.args in
    let l = c.loop-i in
    let no = sym c.flag_stands.ensures ∙ not-true c.flag_stands.result (ap not c.if-not-flag_stands.true) in
    sym (rw (le-ltb _ _ c.if-m-lt-STATE_BYTES.false)
    (sym l.invariant ∙ flags_turn p.m.now slots_at SLOTS l.i c.loop-i-test.true ∙ rw no refl))

pub loop-i-preserved : goal.loop-i-preserved
loop-i-preserved c =
    let p = c.args in
    let l = c.loop-i in
    let yes = sym c.flag_stands.ensures ∙ not-false c.flag_stands.result (ap not c.if-not-flag_stands.false) in
    sym (flags_turn p.m.now slots_at SLOTS l.i c.loop-i-test.true ∙ rw yes refl) ∙ l.invariant

pub returns : goal.returns
returns c =
    let p = c.args in
    let l = c.loop-i in
    sym (rw (le-ltb _ _ c.if-m-lt-STATE_BYTES.false)
    (sym l.invariant ∙ flags_end p.m.now (slots_at + l.i * SLOT) SLOTS l.i c.loop-i-test.false))
