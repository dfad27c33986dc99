-- A reset that ends well was taken.
use Prim.Native.Nat.{ℕ, zero, suc, ◌/◌, ◌%◌}
use mathlib.Core.Bool.{Bool, true, false}
use mathlib.Core.List.{List}
use mathlib.Core.Option.{Option, some, none}
use mathlib.Core.Path.{refl}
use lib.ListN.{set}
use lib.Dec.{eqb}
use Rattle.fields.specs.Outcome.{pick}
use Rattle.pci.specs.Script.{Script, ret, Bus, good, failed, write}
use Rattle.reset.specs.Reset.{either, pointer, dword_at, settle, written, semaphore, taking, control, walk, save}
use Rattle.reset.specs.Taken.{is_taken, GoodIfTaken, ResetTaken}
use Rattle.reset.specs.declared.ResetEnd.{ResetEnd}
use Rattle.reset.specs.declared.ResetEnd.TheVariants as e
use Rattle.reset.specs.declared.Control.{Control}
use Rattle.reset.specs.declared.Control.TheVariants as c

at_either : {A : Type 0} (bad : Script ResetEnd) (k : A → Script ResetEnd) (r : Bus A) → GoodIfTaken bad → ((a : A) → GoodIfTaken (k a)) → GoodIfTaken (either bad k r)
at_either bad k (good a) g h = h a
at_either bad k failed g h = g

at_pick : (b : Bool) (x y : Script ResetEnd) → GoodIfTaken x → GoodIfTaken y → GoodIfTaken (pick b x y)
at_pick true x y g h = g
at_pick false x y g h = h

at_write : (ds : List ℕ) (k : Control) (r : Bus (Unit {0})) → pick (is_taken (write 0 0xf0010 1) r) (Unit {0}) (GoodIfTaken (either (ret e.Write) (λ u. settle ds k) r))
at_write ds k (good u) = tt
at_write ds k failed = refl

at_semaphore : (n : ℕ) (next : Script ResetEnd) → GoodIfTaken next → GoodIfTaken (semaphore n next)
unfolding semaphore
at_semaphore zero next h = λ r. at_either _ _ r refl (λ v. at_pick (eqb v 0) _ _ h refl)
at_semaphore (suc n) next h = λ r. at_either _ _ r refl (λ v. at_pick (eqb v 0) _ _ h (λ s. at_semaphore n next h))

at_taking : (ds : List ℕ) (k : Control) → GoodIfTaken (taking ds k)
at_taking ds k = at_semaphore 10000 (written ds k) (at_write ds k)

at_control : (ds : List ℕ) (o : Option ℕ) → GoodIfTaken (control ds o)
at_control ds none = at_taking ds c.Absent
at_control ds (some at) =
    λ r. at_either _ _ r (at_taking ds c.Absent) (λ d s. at_either _ _ s (at_taking ds c.Absent) (λ l. at_taking ds (c.Saved at d l)))

at_walk : (n at : ℕ) (found : Option ℕ → Script ResetEnd) → ((o : Option ℕ) → GoodIfTaken (found o)) → GoodIfTaken (walk n at found)
unfolding walk
at_walk zero at found h = h none
at_walk (suc n) at found h = at_pick (eqb at 0) _ _ (h none) (λ r. at_either _ _ r (h none) (λ v. at_pick (eqb (v % 0x100) 0x10) _ _ (h (some at)) (at_walk n (pointer (v / 0x100)) found h)))

at_save : (n : ℕ) (ds : List ℕ) → GoodIfTaken (save n ds)
unfolding save
at_save zero ds = λ r. at_either _ _ r (at_control ds none) (λ v. at_walk 48 _ (control ds) (at_control ds))
at_save (suc n) ds = λ r. at_either _ _ r refl (λ v. at_save n (set ds (dword_at n) v))

pub reset_taken : ResetTaken
reset_taken = at_save 16 _
