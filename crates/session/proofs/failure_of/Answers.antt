use Rattle.session.proofs.failure_of.Goals as goal

pub returns-in-Done : goal.returns-in-Done
returns-in-Done c = simp c.in-Done.is

pub returns-in-Status : goal.returns-in-Status
returns-in-Status c = simp c.in-Status.is

pub returns-in-Timeout : goal.returns-in-Timeout
returns-in-Timeout c = simp c.in-Timeout.is

pub returns-in-Busy : goal.returns-in-Busy
returns-in-Busy c = simp c.in-Busy.is

pub returns-in-Bus : goal.returns-in-Bus
returns-in-Bus c = simp c.in-Bus.is
