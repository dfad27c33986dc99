use borrow.Author.Rules.{rules}
use Prim.Native.Nat.{ℕ}
use mathlib.Core.List.{List}
use mathlib.Core.Bool.{Bool}
use mathlib.Core.Path.{ap, sym, ◌∙◌}
use borrow.Author.Tests.{le-ltb, lt-ltb}
use lib.ListN.{length}
use Rattle.fields.specs.Outcome.{pick}
use Rattle.session.specs.Core.{full}
use Rattle.behind.specs.Behind.{behind_in}
use Rattle.results.specs.Results.{put_said, put_ports, put_layout, setup_in}
use Rattle.results.proofs.put_setup.Goals as goal

pub returns-then-out-lt-SETUP : goal.returns-then-out-lt-SETUP
unfolding setup_in
returns-then-out-lt-SETUP c =
    let p = c.args in
    let n = (full p.s (behind_in p.m.now)).info in
    let w = p.out.now in
    sym (ap (λ (b : Bool). pick b w (put_layout (put_ports (put_said w n) n) n)) (lt-ltb (length w) 1072 c.if-out-lt-SETUP.true))

pub returns : goal.returns
unfolding setup_in
returns c =
    let p = c.args in
    let n = (full p.s (behind_in p.m.now)).info in
    let w = p.out.now in
    c.put_layout.ensures ∙ ap (λ (x : List ℕ). put_layout x n) (c.put_ports.ensures p.s ∙ ap (λ (x : List ℕ). put_ports x n) c.put_said.ensures)
    ∙ sym (ap (λ (b : Bool). pick b w (put_layout (put_ports (put_said w n) n) n)) (le-ltb (length w) 1072 c.if-out-lt-SETUP.false))
