use borrow.Author.Rules.{rules}
use Rattle.behind.specs.Behind.{behind_in}
use Rattle.opening_plan.specs.Plan.{prepare_plan}
use Rattle.preparing.proofs.prepared.Goals as goal

pub returns-in-Attributes : goal.returns-in-Attributes
unfolding prepare_plan
returns-in-Attributes c = let b = behind_in c.args.m.now in simp (c.enabled.ensures b, c.attr_in.ensures, c.in-Attributes.is)

pub returns-in-Claim : goal.returns-in-Claim
unfolding prepare_plan
returns-in-Claim c = let b = behind_in c.args.m.now in simp (c.claimed.ensures b, c.claim_in.ensures, c.in-Claim.is)

pub returns-in-Reset : goal.returns-in-Reset
unfolding prepare_plan
returns-in-Reset c = let b = behind_in c.args.m.now in simp (c.was_reset.ensures b, c.reset_in.ensures, c.in-Reset.is)

pub returns-in-Bar : goal.returns-in-Bar
unfolding prepare_plan
returns-in-Bar c = let b = behind_in c.args.m.now in simp (c.found.ensures b, c.bar_in.ensures, c.in-Bar.is)

pub returns-in-Inbox : goal.returns-in-Inbox
unfolding prepare_plan
returns-in-Inbox c = let b = behind_in c.args.m.now in simp (c.got_inbox.ensures b, c.made_in.ensures, c.in-Inbox.is)

pub returns-in-Outbox : goal.returns-in-Outbox
unfolding prepare_plan
returns-in-Outbox c = let b = behind_in c.args.m.now in simp (c.got_outbox.ensures, c.made_in-in-Outbox.ensures, c.in-Outbox.is)

pub returns-in-Look : goal.returns-in-Look
unfolding prepare_plan
returns-in-Look c = let b = behind_in c.args.m.now in simp (c.looked.ensures, c.toggle_in.ensures, c.in-Look.is)
