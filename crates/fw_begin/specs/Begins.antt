-- A PLAN IS BEGUN: what is said of the head that it leads to, and what a call says then.
use Rattle.std.specs.Prelude.{◌≡◌}
use Rattle.session.specs.declared.Core.{Core}
use Rattle.session.specs.declared.Session.{Session}
use Rattle.session.specs.Core.{Behind, full, begun}
use Rattle.fw_plan.specs.declared.Turn.{Turn}
use Rattle.fw_begin.specs.declared.Said.{Said}

-- what a turn says: the question that is open now, and how many undo records are left
abbrev pub said_of : Turn → Said
said_of t = record { question = t.question; undo = t.undo }

-- the session of a head once its task begins on what stands behind it
abbrev pub opens : Core → Behind → Session
opens c b = full c (begun c.stage c.task b)

-- of whatever has these capabilities
abbrev pub WithCaps : Behind → (Behind → Type 0) → Type 0
WithCaps a f = (b : Behind) → b.cap ≡ a.cap → f b

-- one head's task begins as the other's does
abbrev pub BeginsAs : Core → Core → Type 0
BeginsAs r s = (b : Behind) → begun r.stage r.task b ≡ begun s.stage s.task b
