-- WHAT A REPLY LEAVES behind the head when its command has ended: it is noted before the plan runs, so that the plan finds it there.
use Rattle.std.specs.Prelude.{ℕ, List, ◌≡◌, Option}
use Rattle.fields.specs.Outcome.{Outcome, value, refused, pick}
use Rattle.reply.specs.Capability.{capability_of}
use Rattle.reply.specs.Replies.{query_port_of}
use Rattle.work.specs.declared.End.{End}
use Rattle.session.specs.declared.Boot.{Boot}
use Rattle.session.specs.declared.Boot.TheVariants as k
use Rattle.session.specs.declared.Stage.{Stage}
use Rattle.session.specs.declared.Stage.TheVariants as g
use Rattle.session.specs.declared.Session.{Session}
use Rattle.session.specs.declared.Planned.{Planned}
use Rattle.session.specs.declared.Core.{Core}
use Rattle.session.specs.declared.Plan.{Plan}
use Rattle.session.specs.declared.Note.{Note}
use Rattle.session.specs.declared.Note.TheVariants as n
use Rattle.session.specs.Core.{Behind, full, plan_in, noted}
use Rattle.closing_plan.specs.Plan.{cmd_in}
use Rattle.closing_plan.specs.Closing.{is_done}

-- a note of what is a value
abbrev pub value_note : {A : Type 0} → Note → Outcome A → Note
value_note y (value v) = y
value_note y (refused i vs) = n.Nothing

-- the capabilities, and a port
abbrev pub cap_note : Option ℕ → End → (outbox : List ℕ) → Note
cap_note z y o = pick (is_done (cmd_in y).result) (value_note n.Cap (capability_of o z)) n.Nothing

abbrev pub port_note : ℕ → End → (outbox : List ℕ) → Note
port_note i y o = pick (is_done (cmd_in y).result) (value_note (n.Port i) (query_port_of o i)) n.Nothing

abbrev pub boot_note : Option ℕ → Boot → End → (outbox : List ℕ) → Note
boot_note z k.QueryFw y o = n.Nothing
boot_note z (k.Make a) y o = n.Nothing
boot_note z (k.Map a c) y o = n.Nothing
boot_note z k.RunFw y o = n.Nothing
boot_note z k.ModStat y o = n.Nothing
boot_note z k.DevCap y o = cap_note z y o
boot_note z (k.Port i) y o = port_note i y o
boot_note z k.IcmSize y o = n.Nothing
boot_note z k.InitHca y o = n.Nothing
boot_note z k.Func y o = n.Nothing
boot_note z k.Adapter y o = n.Nothing

abbrev pub note_at : Option ℕ → Stage → End → (outbox : List ℕ) → Note
note_at z g.Fresh y o = n.Nothing
note_at z (g.Open v) y o = n.Nothing
note_at z g.Ended y o = n.Nothing
note_at z (g.Prepare v) y o = n.Nothing
note_at z (g.Boot v) y o = boot_note z v y o
note_at z (g.Client v) y o = n.Nothing
note_at z (g.Close v) y o = n.Nothing

-- OF A SESSION, by what the task that has ended was for
abbrev pub note_of : Session → Boot → End → (outbox : List ℕ) → Note
note_of s st y o = boot_note s.info.uar.size st y o

abbrev pub note_in : Session → End → (outbox : List ℕ) → Note
note_in s y o = note_at s.info.uar.size s.stage y o

-- A PLAN THAT FINDS A REPLY NOTED: what it leads to from what stood there before
abbrev pub Found : Plan → Note → Core → (outbox : List ℕ) → (Session → Planned) → Behind → Type 0
Found r y s o f a = (b : Behind) → a ≡ noted y s.uar.size o b → plan_in r a ≡ f (full s b)
