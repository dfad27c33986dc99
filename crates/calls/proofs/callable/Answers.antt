use Rattle.calls.proofs.callable.Goals as goal

pub returns-then-is_session : goal.returns-then-is_session
returns-then-is_session c = λ b. simp (← (c.is_session.ensures b), c.if-is_session.true, c.is_time.ensures)

pub returns : goal.returns
returns c = λ b. simp (← (c.is_session.ensures b), c.if-is_session.false)
