-- The undo list: "the caller's own list of records, lent to each call", of 256 records at most.
use Rattle.std.specs.Prelude.{ℕ, ◌+◌, ◌-◌, min, Bool, true, false, ◌||◌, List, [], ltb, eqb, length, get_or, set, Option, Some, None, Result, Ok, Err}
use Rattle.std.specs.List.{list_any}
use Rattle.std.proofs.Math.Option as o
use Rattle.fields.specs.Outcome.{Outcome, value, refused, pick}
use Rattle.hcr.specs.Words.{is_reserved}
use Rattle.session.specs.declared.Top.{Top}
use Rattle.undo.specs.declared.Undo.{Undo}
use Rattle.undo.specs.declared.PushError.{PushError}
use Rattle.undo.specs.declared.PushError.TheVariants as v
use Rattle.undo.specs.declared.PopError.{PopError}

abbrev pub undo_of : (op op_mod in_mod in_param : ℕ) → Undo
undo_of op m n x = record { op = op; op_mod = m; in_mod = n; in_param = x }

-- what stands past the end of a list
abbrev pub none : Undo
none = undo_of 0 0 0 0

-- A POP: the newest record and how many are left below it; none of an empty list; or document 01's
-- number
abbrev pub taken : Result (Option (Undo × ℕ)) PopError → Outcome (o.Option (Undo × ℕ))
taken (Ok (Some (u, n))) = value (o.some (u, n))
taken (Ok None) = value o.none
taken (Err e) = refused 21 []

-- 21: more records than the slice has, or than a list holds. By value: the record is the one below
-- the count
abbrev pub pop_by : (len count : ℕ) → Undo → Outcome (o.Option (Undo × ℕ))
pop_by n k u = pick (ltb n k || ltb 256 k) (refused 21 []) (pick (eqb k 0) (value o.none) (value (o.some (u, k - 1))))

-- over the slice, which it leaves as it is: a record is off the list when the count is below it
abbrev pub pop_of : List Undo → (count : ℕ) → Outcome (o.Option (Undo × ℕ))
pop_of l k = pop_by (length l) k (get_or l (k - 1) none)

-- WHAT A CALL TAKES: the count and the record that a pop would take. A list that is none counts
-- 257, which no call takes
abbrev pub top_at : ℕ → Undo → Top
top_at n u = record { count = n; op = u.op; op_mod = u.op_mod; in_mod = u.in_mod; in_param = u.in_param }

abbrev pub top_by : (count : ℕ) → Outcome (o.Option (Undo × ℕ)) → Top
top_by k (value (o.some (u, n))) = top_at k u
top_by k (value o.none) = top_at 0 none
top_by k (refused n vs) = top_at 257 none

unfoldable pub top_of : List Undo → (count : ℕ) → Top
top_of l k = top_by k (pop_of l k)

-- "looks for 22 in every record wanted": whether one of these has a reserved opcode
unfoldable pub any_reserved : List Undo → Bool
any_reserved us = list_any (λ u. is_reserved u.op) us

-- A PUSH: the new count, or document 01's number
abbrev pub outcome : Result ℕ PushError → Outcome ℕ
outcome (Ok n) = value n
outcome (Err v.Short) = refused 21 []
outcome (Err v.Opcode) = refused 22 []
outcome (Err v.Full) = refused 19 []

-- "Several at one call: 20, 21, 22, 19". 21: more records than a list holds, or no place in the
-- slice for this one, which a full list does not ask for
unfoldable pub push_of : (len count op : ℕ) → Outcome ℕ
push_of n k op =
    pick (ltb 256 k || ltb n (min (k + 1) 256)) (refused 21 [])
    (pick (is_reserved op) (refused 22 [])
    (pick (eqb k 256) (refused 19 []) (value (k + 1))))

abbrev pub stored : Outcome ℕ → Bool
stored (value n) = true
stored (refused n vs) = false

-- the list after it
abbrev pub pushed_in : List Undo → (count : ℕ) → Undo → List Undo
pushed_in l k u = pick (stored (push_of (length l) k u.op)) (set l k u) l
