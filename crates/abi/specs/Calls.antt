-- A call and an answer over C linkage: what each gives, and what it leaves of the session's bytes, the mailboxes and `out`. What is read of a session is that of `readers`.
use Rattle.std.specs.Prelude.{ℕ, Bool, List, [], eqb, take, drop}
use Rattle.fields.specs.Outcome.{Outcome, value, refused, pick}
use Rattle.words_calls.specs.Calls.{heard_of}
use Rattle.in_place.specs.InPlace.{onward_of, goes_on, state_after, out_after}
use Rattle.in_place.specs.declared.Next.{Next}
use Rattle.pci.specs.declared.Answer.{Answer}
use Rattle.session.specs.declared.Form.{Form}
use Rattle.session.specs.declared.Form.TheVariants as f
use Rattle.session.specs.declared.Top.{Top}
use Rattle.client_plan.specs.declared.Request.{Request}
use Rattle.calls_plan.specs.declared.Call.{Call}
use Rattle.calls_plan.specs.declared.Call.TheVariants as k
use Rattle.undo.specs.List.{top_of, any_reserved}
use Rattle.undo.specs.declared.Undo.{Undo}
use Rattle.abi.specs.Turns.{After, after, called, answered}
use Rattle.abi.specs.declared.Wanted.{Wanted}
use Rattle.abi.specs.declared.Wanted.TheVariants as w

-- A CALL from its kind and its values: the opcode, its modifier and the input modifier of a command, and the command's input parameter, the bytes to be lent or the mark.
-- One whose kind has no such number is a call at the wrong time: 20
abbrev pub request_of : Form → (op op_mod in_mod in_param : ℕ) → Request
request_of y op m n x = record { form = y; op = op; op_mod = m; in_mod = n; in_param = x }

abbrev pub command_from : Form → (op op_mod in_mod in_param : ℕ) → Outcome Call
command_from y op m n x = value (k.Command (request_of y op m n x))

abbrev pub call_from : (kind op op_mod in_mod v : ℕ) → (reserved : Bool) → Outcome Call
call_from j op m n v r =
    pick (eqb j 0) (value k.Open) (
    pick (eqb j 1) (command_from f.Imm op m n v) (
    pick (eqb j 2) (command_from f.WithIn op m n v) (
    pick (eqb j 3) (command_from f.WithOut op m n v) (
    pick (eqb j 4) (command_from f.InImm op m n v) (
    pick (eqb j 5) (command_from f.InOut op m n v) (
    pick (eqb j 6) (value (k.Lend v)) (
    pick (eqb j 7) (value (k.UndoTo v r)) (
    pick (eqb j 8) (value k.Quiesce) (
    pick (eqb j 9) (value k.Close) (
    refused 20 []))))))))))

abbrev pub call_as : Wanted → Outcome Call
call_as (w.Known x) = value x
call_as w.Unknown = refused 20 []

abbrev pub wanted_by : Outcome Call → (input : List ℕ) → Top → (state inbox outbox out : List ℕ) → After
wanted_by (value x) y u s i b o = called x y u s i b o
wanted_by (refused n vs) y u s i b o = after n s i b o

unfoldable pub made : (kind op op_mod in_mod v : ℕ) → (reserved : Bool) → (input : List ℕ) → Top → (state inbox outbox out : List ℕ) → After
made j op m n v r y u s i b o = wanted_by (call_from j op m n v r) y u s i b o

-- the same with the caller's list: its newest record, and whether one above the mark is reserved
abbrev pub call : (kind op op_mod in_mod v : ℕ) → (input : List ℕ) → (list : List Undo) → (count : ℕ) → (state inbox outbox out : List ℕ) → After
call j op m n v y l c s i b o = made j op m n v (any_reserved (drop v (take c l))) y (top_of l c) s i b o

-- AN ANSWER: in place where the command goes on, else by the whole session
abbrev pub onward_by : Next → Answer → (resource : List ℕ) → Top → (state inbox outbox out : List ℕ) → After
onward_by z a r u s i b w = pick (goes_on z) (after 0 (state_after z s) i b (out_after z s w u.count)) (answered a r u s i b w)

unfoldable pub answer : Answer → (resource : List ℕ) → Top → (state inbox outbox out : List ℕ) → After
answer a r u s i b w = onward_by (onward_of s a i b u.count w) a r u s i b w

-- an answer as its kind and two values
abbrev pub heard_by : Outcome Answer → (resource : List ℕ) → Top → (state inbox outbox out : List ℕ) → After
heard_by (value a) r u s i b w = answer a r u s i b w
heard_by (refused n vs) r u s i b w = after n s i b w

unfoldable pub told : (kind v x : ℕ) → (resource : List ℕ) → Top → (state inbox outbox out : List ℕ) → After
told k v x r u s i b w = heard_by (heard_of k v x) r u s i b w

-- the same without looking whether the command goes on
abbrev pub whole_by : Outcome Answer → (resource : List ℕ) → Top → (state inbox outbox out : List ℕ) → After
whole_by (value a) r u s i b w = answered a r u s i b w
whole_by (refused n vs) r u s i b w = after n s i b w
