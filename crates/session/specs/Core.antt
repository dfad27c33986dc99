-- THE HEAD of a session by value, and what stands behind it: together they are the session that all definitions speak of.
use Rattle.std.specs.Prelude.{ℕ, List, Bool, true, false, ◌≡◌, eqb, replicate, Option}
use Rattle.fields.specs.Outcome.{value_or, pick}
use Rattle.bars.specs.declared.Pick.{Pick}
use Rattle.reply.specs.Capability.{capability_of, no_caps}
use Rattle.reply.specs.Replies.{query_port_of, no_port}
use Rattle.reply.specs.declared.DevCap.{DevCap}
use Rattle.reply.specs.declared.FuncInfo.{FuncInfo}
use Rattle.reply.specs.declared.PortInfo.{PortInfo}
use Rattle.hcr.specs.declared.Post.{Post}
use Rattle.command.specs.Machine.{first}
use Rattle.command.specs.declared.CmdEnd.{CmdEnd}
use Rattle.reset.specs.Steps as rs
use Rattle.reset.specs.declared.Reset.{Reset}
use Rattle.uar.specs.Steps as us
use Rattle.uar.specs.declared.FindBar.{FindBar}
use Rattle.work.specs.Work.{working}
use Rattle.work.specs.declared.Task.{Task}
use Rattle.work.specs.declared.Task.TheVariants as t
use Rattle.session.specs.declared.Slot.{Slot}
use Rattle.session.specs.declared.Wire.{Wire}
use Rattle.session.specs.declared.Stage.{Stage}
use Rattle.session.specs.declared.Stage.TheVariants as g
use Rattle.session.specs.declared.Prepare.{Prepare}
use Rattle.session.specs.declared.Prepare.TheVariants as p
use Rattle.session.specs.declared.Close.{Close}
use Rattle.session.specs.declared.Close.TheVariants as k
use Rattle.session.specs.declared.Fill.{Fill}
use Rattle.session.specs.declared.Failure.{Failure}
use Rattle.session.specs.declared.Closing.{Closing}
use Rattle.session.specs.declared.Session.{Session}
use Rattle.session.specs.declared.Planned.{Planned}
use Rattle.session.specs.declared.Core.{Core}
use Rattle.session.specs.declared.Note.{Note}
use Rattle.session.specs.declared.Note.TheVariants as n
use Rattle.session.specs.declared.Plan.{Plan}
use Rattle.session.specs.Session.{session, books, no_slot, planned, catas_for, after, broken, silent}

-- what stands behind the head
pub record Behind : Type 0 where
  pub reset : Reset
  pub find : FindBar
  pub cap : DevCap
  pub port1 : PortInfo
  pub port2 : PortInfo
  pub slots : List Slot

abbrev pub behind : Reset → FindBar → DevCap → PortInfo → PortInfo → List Slot → Behind
behind r f c p q l = record { reset = r; find = f; cap = c; port1 = p; port2 = q; slots = l }

-- THE SESSION of a head and of what stands behind it
abbrev pub full : Core → Behind → Session
full c b =
    session c.stage (working c.task b.reset b.find)
    (books c.wire (record { slots = b.slots; ranges = c.ranges; lends = c.lends }) c.started c.original)
    (record { uar = c.uar; cap = b.cap; func = c.func; port1 = b.port1; port2 = b.port2; rev3 = c.rev3 })
    c.failure c.closing

-- A STEP OF THE HEAD: as of the whole session
abbrev pub ledger : Core → (ranges lends : ℕ) → (started : Bool) → (original : ℕ) → Pick → FuncInfo → Bool → Failure → Closing → Core
ledger c n l s o u i v f z = record {
  stage = c.stage;
  task = c.task;
  wire = c.wire;
  ranges = n;
  lends = l;
  started = s;
  original = o;
  uar = u;
  func = i;
  rev3 = v;
  failure = f;
  closing = z;
}

abbrev pub core : Core → Stage → Task → Wire → Core
core c s k w = record {
  stage = s;
  task = k;
  wire = w;
  ranges = c.ranges;
  lends = c.lends;
  started = c.started;
  original = c.original;
  uar = c.uar;
  func = c.func;
  rev3 = c.rev3;
  failure = c.failure;
  closing = c.closing;
}

abbrev pub start_of : Core → Stage → Task → Core
start_of c s k = core c s k c.wire

abbrev pub send_of : Core → Stage → Post → Core
send_of c s p = start_of c s (t.Cmd (first p c.wire.toggle (catas_for c.wire)))

abbrev pub wire_of : Core → Wire → Core
wire_of c w = core c c.stage c.task w

abbrev pub took_by : Core → CmdEnd → Core
took_by c e = wire_of c (after c.wire e)

abbrev pub break_of : Core → Core
break_of c = wire_of c (broken c.wire)

abbrev pub silence_of : Core → Core
silence_of c = wire_of c (silent c.wire)

-- how a closing went, and why an opening failed
abbrev pub ends_as : Core → Failure → Closing → Core
ends_as c f z = ledger c c.ranges c.lends c.started c.original c.uar c.func c.rev3 f z

abbrev pub close_as : Core → Closing → Core
close_as c z = ends_as c c.failure z

-- what an opening has found out
abbrev pub original_as : Core → ℕ → Core
original_as c v = ledger c c.ranges c.lends c.started v c.uar c.func c.rev3 c.failure c.closing

abbrev pub started_as : Core → Core
started_as c = ledger c c.ranges c.lends true c.original c.uar c.func c.rev3 c.failure c.closing

abbrev pub found_as : Core → Pick → FuncInfo → Bool → Core
found_as c u i v = ledger c c.ranges c.lends c.started c.original u i v c.failure c.closing

-- behind a session that was not opened yet
abbrev pub none_behind : Behind
none_behind = behind rs.started us.started no_caps no_port no_port (replicate 82 no_slot)

-- WHAT A REPLY LEAVES behind the head: it is the one in the outbox as it was lent
abbrev pub cap_in : (outbox : List ℕ) → Option ℕ → DevCap
cap_in o z = value_or no_caps (capability_of o z)

abbrev pub port_in : (outbox : List ℕ) → ℕ → PortInfo
port_in o i = value_or no_port (query_port_of o i)

abbrev pub noted : Note → Option ℕ → (outbox : List ℕ) → Behind → Behind
noted n.Nothing z o b = b
noted n.Cap z o b = behind b.reset b.find (cap_in o z) b.port1 b.port2 b.slots
noted (n.Port i) z o b =
    behind b.reset b.find b.cap (pick (eqb i 1) (port_in o i) b.port1) (pick (eqb i 1) b.port2 (port_in o i)) b.slots

-- A PLAN'S TASK BEGINS: a reset and a search begin anew, in the stages that they are for
abbrev pub close_resets : Close → Bool
close_resets (k.Undo i) = false
close_resets k.CloseHca = false
close_resets (k.Unmap i) = false
close_resets k.UnmapAux = false
close_resets k.UnmapFa = false
close_resets k.Quiesce = false
close_resets k.Reset = true
close_resets (k.Free i) = false
close_resets k.Release = false
close_resets k.Restore = false

abbrev pub prepare_resets : Prepare → Bool
prepare_resets p.Attributes = false
prepare_resets p.Claim = false
prepare_resets p.Reset = true
prepare_resets p.Bar = false
prepare_resets p.Inbox = false
prepare_resets p.Outbox = false
prepare_resets p.Look = false

abbrev pub prepare_finds : Prepare → Bool
prepare_finds p.Attributes = false
prepare_finds p.Claim = false
prepare_finds p.Reset = false
prepare_finds p.Bar = true
prepare_finds p.Inbox = false
prepare_finds p.Outbox = false
prepare_finds p.Look = false

abbrev pub is_reset : Stage → Bool
is_reset g.Fresh = false
is_reset (g.Open y) = false
is_reset g.Ended = false
is_reset (g.Prepare y) = prepare_resets y
is_reset (g.Boot y) = false
is_reset (g.Client y) = false
is_reset (g.Close y) = close_resets y

abbrev pub is_find : Stage → Bool
is_find g.Fresh = false
is_find (g.Open y) = false
is_find g.Ended = false
is_find (g.Prepare y) = prepare_finds y
is_find (g.Boot y) = false
is_find (g.Client y) = false
is_find (g.Close y) = false

abbrev pub begun : Stage → Task → Behind → Behind
begun s t.Rest b = b
begun s (t.Attr y) b = b
begun s (t.Claim y) b = b
begun s t.Reset b = pick (is_reset s) (behind rs.started b.find b.cap b.port1 b.port2 b.slots) b
begun s t.Bar b = pick (is_find s) (behind b.reset us.started b.cap b.port1 b.port2 b.slots) b
begun s (t.Make y) b = b
begun s (t.Free y) b = b
begun s t.Look b = b
begun s (t.Cmd y) b = b
begun s (t.Part y) b = b

-- where a plan leads
abbrev pub leads : Core → Fill → ℕ → Plan
leads c f n = record { core = c; fill = f; undo = n }

abbrev pub plan_in : Plan → Behind → Planned
plan_in p b = planned (full p.core (begun p.core.stage p.core.task b)) p.fill p.undo

-- A PROMISE on heads: whatever stands behind
abbrev pub FullIs : Core → (Behind → Session) → Type 0
FullIs r f = (b : Behind) → full r b ≡ f b

abbrev pub PlanIs : Plan → (Behind → Planned) → Type 0
PlanIs r f = (b : Behind) → plan_in r b ≡ f b
