-- Every state of the small tasks does what is left of its script.
use mathlib.Core.Bool.{Bool, true, false}
use mathlib.Core.Path.{◌≡◌, refl}
use lib.Dec.{eqb}
use Rattle.fields.specs.Outcome.{pick}
use Rattle.hcr.specs.Words.{swap_of}
use Rattle.pci.specs.Machine.{rest}
use Rattle.pci.proofs.Cases.{word_case, register_case, qword_case, done_case, told_case}
use Rattle.tasks.specs.Attributes.{attr_asks, attr_step, attr_script, attr_next, got_step, supported_step, enable_step, AttrFollows}
use Rattle.tasks.specs.Claim.{claim_asks, claim_step, claim_script, claim_next, ClaimFollows}
use Rattle.tasks.specs.Claim as c
use Rattle.tasks.specs.Parting.{part_asks, part_step, part_script, part_next, disown_step, settle_step, restore_step, PartFollows}
use Rattle.tasks.specs.Parting as e
use Rattle.tasks.specs.declared.Attr.TheVariants as a
use Rattle.tasks.specs.declared.Claim.TheVariants as l
use Rattle.tasks.specs.declared.ClaimStep.{ClaimStep}
use Rattle.tasks.specs.declared.Parting.TheVariants as p
use Rattle.tasks.specs.declared.PartingStep.TheVariants as s

pub attr_follows : AttrFollows
attr_follows a.Get = (refl, qword_case attr_asks attr_step attr_script _ (λ r. attr_next (got_step r)) _ (λ v. refl) refl refl)
attr_follows (a.Supported v) = (refl, qword_case attr_asks attr_step attr_script _ (λ r. attr_next (supported_step v r)) _ (λ y. refl) refl refl)
attr_follows (a.Enable v w) = (refl, qword_case attr_asks attr_step attr_script _ (λ r. attr_next (enable_step v w r)) _ (λ y. refl) refl refl)

pick_left : (b : Bool) (x y : ClaimStep)
    → rest claim_asks claim_step claim_script (claim_next (pick b x y)) ≡ pick b (rest claim_asks claim_step claim_script (claim_next x)) (rest claim_asks claim_step claim_script (claim_next y))
pick_left true x y = refl
pick_left false x y = refl

pub claim_follows : ClaimFollows
claim_follows l.Command = (refl, word_case claim_asks claim_step claim_script _ (λ r. claim_next (c.command_step r)) _ (λ v. refl) refl refl)
claim_follows (l.Write v) = (refl, done_case claim_asks claim_step claim_script _ (λ r. claim_next (c.wrote_step v r)) _ refl refl refl)
claim_follows l.Owner =
    (refl, register_case claim_asks claim_step claim_script _ (λ r. claim_next (c.owner_step r)) _ (λ v. pick_left (eqb (swap_of v) 0) _ _) refl refl)

pub part_follows : PartFollows
part_follows p.Disown = (refl, done_case part_asks part_step part_script _ (λ r. part_next (disown_step r)) _ refl refl refl)
part_follows p.Settle = (refl, told_case part_asks part_step part_script _ (λ r. part_next (settle_step r)) _ refl refl)
part_follows (p.Restore v) = (refl, qword_case part_asks part_step part_script _ (λ r. part_next (restore_step v r)) _ (λ y. refl) refl refl)
part_follows p.Owner = (refl, done_case part_asks part_step part_script _ (λ r. part_next (e.wrote_step p.Owner (s.More p.Command) r)) _ refl refl refl)
part_follows p.Command = (refl, word_case part_asks part_step part_script _ (λ r. part_next (e.command_step r)) _ (λ v. refl) refl refl)
part_follows (p.Write v) = (refl, done_case part_asks part_step part_script _ (λ r. part_next (e.wrote_step (p.Write v) s.Ended r)) _ refl refl refl)
