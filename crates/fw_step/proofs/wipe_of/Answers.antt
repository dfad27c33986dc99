use mathlib.Core.Bool.{true, false}
use mathlib.Core.Path.{◌≡◌, refl, ap, sym, ◌∙◌}
use Rattle.pci.specs.Views.{granted_of}
use Rattle.fw_plan.specs.Calls.{is_allocate, is_granted}
use borrow.Author.Rules.{rules}
use Rattle.fw_step.proofs.wipe_of.Goals as goal

pub is_allocate-requires : goal.is_allocate-requires
is_allocate-requires c = search rules

pub as_handle-requires : goal.as_handle-requires
as_handle-requires c = search rules

pub is_granted-requires : goal.is_granted-requires
is_granted-requires c = search rules

pub wipe_by-requires : goal.wipe_by-requires
wipe_by-requires c = search rules

pub returns-then-is_granted : goal.returns-then-is_granted
returns-then-is_granted c =
    let p = c.args in
    let al : is_allocate p.q ≡ true = sym c.is_allocate.ensures ∙ c.if-is_allocate.true in
    let gr : is_granted (granted_of p.a) ≡ true = ap is_granted (sym c.as_handle.ensures) ∙ sym c.is_granted.ensures ∙ c.if-is_granted.true in
    rw (al, gr) c.wipe_by.ensures

pub returns-then-is_allocate : goal.returns-then-is_allocate
returns-then-is_allocate c =
    let p = c.args in
    let al : is_allocate p.q ≡ true = sym c.is_allocate.ensures ∙ c.if-is_allocate.true in
    let gr : is_granted (granted_of p.a) ≡ false = ap is_granted (sym c.as_handle.ensures) ∙ sym c.is_granted.ensures ∙ c.if-is_granted.false in
    rw (al, gr) refl

pub returns : goal.returns
returns c = simp (sym c.is_allocate.ensures ∙ c.if-is_allocate.false)
