-- A task whose end is turned, in a course.
use mathlib.Core.Path.{◌≡◌, refl, ap, fun_ext}
use Rattle.pci.specs.Script.{Script, ◌>>=◌}
use Rattle.pci.specs.Script as s
use Rattle.session.specs.Course.{Course, ask, Here, left, lent, Lent, Place, touched, booked, run}
use Rattle.session.specs.declared.Books.{Books}

pub run_turned : {A B R : Type 0} (p : Place) (t : Script A) (f : A → B) (k : B → Books → Here → Course R) (b : Books) (h : Here) → run p (t >>= (λ a. s.ret (f a))) k b h ≡ run p t (λ a d j. k (f a) d j) b h
run_turned p (s.ret a) f k b h = refl
run_turned p (s.ask q g) f k b h = ap (λ c. ask q (left h) c) (fun_ext (λ r. fun_ext (λ (l : Lent). run_turned p (g r) f k (booked p q r b) (touched p q r (lent h l)))))

-- and with an end that is known to be the same
pub run_same : {A R : Type 0} (p : Place) (t : Script A) (k j : A → Books → Here → Course R) (b : Books) (h : Here) → ((a : A) (d : Books) (i : Here) → k a d i ≡ j a d i) → run p t k b h ≡ run p t j b h
run_same p (s.ret a) k j b h e = e a b h
run_same p (s.ask q g) k j b h e = ap (λ c. ask q (left h) c) (fun_ext (λ r. fun_ext (λ (l : Lent). run_same p (g r) k j (booked p q r b) (touched p q r (lent h l)) e)))
