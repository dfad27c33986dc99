-- WHAT STANDS BEHIND THE HEAD when a call begins: nothing yet, of an opening; it is written before the plan is made. And what a call leaves that is in its time, with all
-- that it must be lent.
use Rattle.std.specs.Prelude.{ℕ, List}
use Rattle.session.specs.Core.{Behind, none_behind}
use Rattle.session.specs.declared.Session.{Session}
use Rattle.session.specs.declared.Top.{Top}
use Rattle.calls_plan.specs.Calls.{admitted, admitted_in, admitted_out}
use Rattle.calls_plan.specs.declared.Call.{Call}
use Rattle.calls_plan.specs.declared.Call.TheVariants as k
use Rattle.bytes_plan.specs.Left.{call_left}
use Rattle.abi.specs.Turns.{After, taken}
use Rattle.abi.specs.Kept.{given_by}

abbrev pub behind_for : Call → Behind → Behind
behind_for k.Open b = none_behind
behind_for (k.Command y) b = b
behind_for (k.Lend bytes) b = b
behind_for (k.UndoTo mark r) b = b
behind_for k.Quiesce b = b
behind_for k.Close b = b

-- what it leaves, unless it is barred; and the session then
abbrev pub admitted_as : Session → Call → (input : List ℕ) → Top → (state inbox outbox out : List ℕ) → After
admitted_as x c y u s i o w =
    taken (admitted x c y i u) (call_left c (admitted x c y i u).session s) s (admitted_in x c y i u) (admitted_out x c o u) w

abbrev pub admitted_next : Session → Call → (input inbox : List ℕ) → Top → Session
admitted_next x c y i u = given_by (admitted x c y i u).refusal (admitted x c y i u).session x
