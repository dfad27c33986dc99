-- A PLAN'S FILL BEGINS NOTHING: the task of the head that it leads to begins as the plan's own.
use Prim.Native.Nat.{ℕ, ◌%◌, ◌^◌}
use mathlib.Core.Bool.{Bool, true, false, ◌&&◌}
use mathlib.Core.Path.{◌≡◌, refl, ap, sym, ◌∙◌}
use mathlib.Core.List.{List}
use lib.Dec.{eqb}
use lib.ListN.{length}
use Rattle.fields.specs.Outcome.{pick}
use Rattle.dma.specs.PageList.{listed_of}
use Rattle.dma.specs.declared.Listed.{Listed}
use Rattle.session.specs.Core.{Behind, full, begun, plan_in}
use Rattle.session.specs.declared.Boot.{Boot}
use Rattle.session.specs.declared.Boot.TheVariants as k
use Rattle.session.specs.declared.Core.{Core}
use Rattle.session.specs.declared.Fill.{Fill}
use Rattle.session.specs.declared.Fill.TheVariants as w
use Rattle.session.specs.declared.Plan.{Plan}
use Rattle.session.specs.declared.Session.{Session}
use Rattle.session.specs.declared.Stage.{Stage}
use Rattle.session.specs.declared.Stage.TheVariants as g
use Rattle.opening_plan.specs.Plan.{lists, lists_at, lists_boot}
use Rattle.fw_plan.specs.Calls.{filled, begun_of}
use Rattle.abi.proofs.Left.{boot_begun}
use Rattle.fw_begin.specs.Begins.{opens}

abbrev begins : Session → Behind → Behind
begins s b = begun s.stage s.work.task b

boot_lists : (s : Session) (y : Listed) (b : Behind) (z : Boot) → s.stage ≡ g.Boot z → begins (lists_boot s y z) b ≡ begins s b
boot_lists s y b k.QueryFw e = refl
boot_lists s y b (k.Make a) e = refl
boot_lists s y b (k.Map a c) e = sym (ap (λ (x : Stage). begun x s.work.task b) e ∙ boot_begun (k.Map a c) s.work.task b)
boot_lists s y b k.RunFw e = refl
boot_lists s y b k.ModStat e = refl
boot_lists s y b k.DevCap e = refl
boot_lists s y b (k.Port i) e = refl
boot_lists s y b k.IcmSize e = refl
boot_lists s y b k.InitHca e = refl
boot_lists s y b k.Func e = refl
boot_lists s y b k.Adapter e = refl

lists_at_lem : (s : Session) (y : Listed) (b : Behind) (z : Stage) → s.stage ≡ z → begins (lists_at s y z) b ≡ begins s b
lists_at_lem s y b g.Fresh e = refl
lists_at_lem s y b (g.Open v) e = refl
lists_at_lem s y b g.Ended e = refl
lists_at_lem s y b (g.Prepare v) e = refl
lists_at_lem s y b (g.Boot v) e = boot_lists s y b v e
lists_at_lem s y b (g.Client v) e = refl
lists_at_lem s y b (g.Close v) e = refl

by_length : (q : Bool) (s : Session) (y : Listed) (b : Behind) → begins (pick q (lists s y) s) b ≡ begins s b
by_length true s y b = lists_at_lem s y b s.stage refl
by_length false s y b = refl

filled_begun : (z : Fill) (s : Session) (i : List ℕ) (b : Behind) → begins (filled z s i) b ≡ begins s b
filled_begun w.Nothing s i b = refl
filled_begun w.Outbox s i b = refl
filled_begun (w.List c) s i b = by_length (eqb (length i) 4096) s (listed_of 63 256 c) b
filled_begun w.ModStat s i b = refl
filled_begun w.InitHca s i b = refl

-- so the session that opens with that head is the plan's, once it is filled
pub opened : (p : Plan) (c : Core) (a : Behind) (i : List ℕ) → let b = begun p.core.stage p.core.task a in full c b ≡ filled p.fill (full p.core b) i
    → opens c a ≡ (begun_of (plan_in p a) i).session
opened p c a i e =
    let b = begun p.core.stage p.core.task a in
    let same : begun c.stage c.task a ≡ b = ap (λ (x : Session). begins x a) e ∙ filled_begun p.fill (full p.core b) i a in
    ap (full c) same ∙ e

pub and_of : {p q r : Bool} → p ≡ true → r ≡ q → r ≡ p && q
and_of e d = rw (e, d) refl

pub and_not : {p r : Bool} (q : Bool) → p ≡ false → r ≡ false → r ≡ p && q
and_not q e d = rw (e, d) refl
