-- What it is for a course to be safe: whatever the card and the host do, and whatever is lent with
-- each reply, each question is allowed, and P holds at the end.
use Rattle.std.specs.Prelude.{ℕ, ◌<◌, ◌^◌, get_or}
use Rattle.pci.specs.Script.{Reply}
use Rattle.session.specs.Course.{Course, ret, ask, Lent}
use Rattle.session.specs.declared.Top.{Top}
use Rattle.client_plan.specs.declared.Request.{Request}
use Rattle.card.specs.Card.{World, WorldStep, Allowed}

-- the numbers of an undo record are those of its type
pub record Typed (u : Top) : Type 0 where
  pub op_mod : u.op_mod < 2 ^ 8
  pub in_mod : u.in_mod < 2 ^ 32
  pub in_param : u.in_param < 2 ^ 64

-- and those of a client's command
pub record Sized (y : Request) : Type 0 where
  pub op_mod : y.op_mod < 2 ^ 8
  pub in_mod : y.in_mod < 2 ^ 32
  pub in_param : y.in_param < 2 ^ 64

-- what is lent is bytes and such a record, and free otherwise
pub record Lendable (m : Lent) : Type 0 where
  pub outbox : (k : ℕ) → get_or m.outbox k 0 < 256
  pub undo : Typed m.undo

abbrev pub SafeCourse : {R : Type 0} → World → Course R → (World → R → Type 1) → Type 1
SafeCourse w (ret l r) P = P w r
SafeCourse w (ask q l k) P = Allowed l.inbox w q × ((r : Reply q) (m : Lent) (v : World) → Lendable m → WorldStep w q r v → SafeCourse v (k r m) P)
