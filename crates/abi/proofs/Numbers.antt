-- THE NUMBERS of the kinds of call, as `include/hca.h` has them, one by one; 10, the first that is none, is a call at the wrong time, as the definition says of every other.
use Prim.Native.Nat.{ℕ}
use mathlib.Core.Bool.{Bool}
use mathlib.Core.List.{[]}
use mathlib.Core.Path.{◌≡◌, refl}
use Rattle.fields.specs.Outcome.{value, refused}
use Rattle.session.specs.declared.Form.TheVariants as f
use Rattle.calls_plan.specs.declared.Call.TheVariants as k
use Rattle.abi.specs.Calls.{command_from, call_from}

module _ (op op_mod in_mod v : ℕ) (r : Bool) where
  pub record Numbers : Type 0 where
    pub opens : call_from 0 op op_mod in_mod v r ≡ value k.Open
    pub imm : call_from 1 op op_mod in_mod v r ≡ command_from f.Imm op op_mod in_mod v
    pub with_in : call_from 2 op op_mod in_mod v r ≡ command_from f.WithIn op op_mod in_mod v
    pub with_out : call_from 3 op op_mod in_mod v r ≡ command_from f.WithOut op op_mod in_mod v
    pub in-imm : call_from 4 op op_mod in_mod v r ≡ command_from f.InImm op op_mod in_mod v
    pub in-out : call_from 5 op op_mod in_mod v r ≡ command_from f.InOut op op_mod in_mod v
    pub lend : call_from 6 op op_mod in_mod v r ≡ value (k.Lend v)
    pub undo-to : call_from 7 op op_mod in_mod v r ≡ value (k.UndoTo v r)
    pub quiesce : call_from 8 op op_mod in_mod v r ≡ value k.Quiesce
    pub close : call_from 9 op op_mod in_mod v r ≡ value k.Close
    pub other : call_from 10 op op_mod in_mod v r ≡ refused 20 []

  pub numbers : Numbers
  numbers =
      record {
        opens = refl;
        imm = refl;
        with_in = refl;
        with_out = refl;
        in-imm = refl;
        in-out = refl;
        lend = refl;
        undo-to = refl;
        quiesce = refl;
        close = refl;
        other = refl;
      }
