-- DEMAND 3 OVER C LINKAGE, from the theorem about sessions by value: a call on bytes is a call on the session that they hold, or it is refused, and then an event that is
-- refused in any case stands for it.
use Prim.Native.Nat.{ℕ, ◌-◌, ◌*◌, ◌<◌, ◌^◌}
use native.Mathlib.Omega.{arith}
use mathlib.Core.Bool.{Bool, true, false}
use mathlib.Core.List.{List, [], ◌∷◌}
use mathlib.Core.Logic.{◌⊎◌, inl, inr, ⊎_elim}
use mathlib.Core.Option.{Option, none}
use mathlib.Core.Path.{◌≡◌, refl, sym, ◌∙◌, ap, subst}
use lib.Dec.{ltb, eqb}
use lib.ListN.{length, take, drop, get_or}
use borrow.Author.Tests.{eq-eqb, ne_eqb}
use Rattle.work.specs.Work.{work_step_of}
use Rattle.work.specs.declared.Ending.{Ending}
use Rattle.work.specs.declared.Ending.TheVariants as e
use Rattle.fields.specs.Outcome.{Outcome, value, refused, number_of, pick}
use Rattle.words_calls.specs.Calls.{heard_of, turn_in}
use Rattle.words.specs.Words.{put_words}
use Rattle.words_session.specs.Image.{decode_of}
use Rattle.results.specs.Books.{BOOKS, books_words, books_in}
use Rattle.bytes_plan.specs.Left.{call_left, answer_left}
use Rattle.abi.proofs.Turns.{head_known}
use Rattle.pci.specs.Script.{Ask}
use Rattle.pci.specs.Refusals.{refusal}
use Rattle.pci.specs.declared.Refusal.{Refusal}
use Rattle.pci.specs.declared.Refusal.TheVariants as x
use Rattle.pci.specs.declared.Question.{Question}
use Rattle.pci.specs.declared.Answer.{Answer}
use Rattle.pci.specs.declared.Answer.TheVariants as a
use Rattle.session.specs.declared.Top.{Top}
use Rattle.session.specs.declared.Form.{Form}
use Rattle.session.specs.declared.Form.TheVariants as fm
use Rattle.session.specs.declared.Failure.{Failure}
use Rattle.session.specs.declared.Failure.TheVariants as f
use Rattle.session.specs.declared.Session.{Session}
use Rattle.undo.specs.List.{none as noRecord, top_of, top_at, any_reserved}
use Rattle.undo.proofs.Laws.{top_cases}
use Rattle.undo.specs.declared.Undo.{Undo}
use Rattle.fw_plan.specs.Calls.{asks_of, in_time, is_lent, answerable, answer_of, answer_in, answer_out, refused_of, booked_of, step_of, step_turn}
use Rattle.fw_plan.specs.declared.Turn.{Turn}
use Rattle.calls_plan.specs.Calls.{callable, lent_for, barred as barredBy, unless, begun_turn, call_of, call_in, call_out}
use Rattle.calls_plan.specs.declared.Call.{Call}
use Rattle.abi.specs.Turns.{After, after, code_by, out_by, taken, call_known, answer_known, called, answered}
use Rattle.abi.specs.Calls.{request_of, call_from, wanted_by, made, heard_by, told}
use Rattle.abi.specs.Kept.{given_by, call_next, answer_next, known_next, wanted_next, heard_next, Keeps, Holds}
use Rattle.abi.specs.Kept as k
use Rattle.abi.specs.Readers.{reads, of_session, result_known, books_known, result, books}
use Rattle.abi.proofs.Poll.{poll_is_whole}
use Rattle.card.specs.Card.{Hold, World}
use Rattle.card_calls.specs.SafeCourse.{Typed, Sized as SizedRequest}
use Rattle.demand.specs.Events.{Input, call_make, call_answer, SizedCall, SizedInput, SameBox, box_left, asked, calls_by, began_now, lent_by, lends_to, turn_by, inbox_by}
use Rattle.demand.specs.Events as v
use Rattle.demand.specs.Demand as w
use Rattle.demand.proofs.Demand.{demand}
use Rattle.demand_abi.specs.Linked.{AbiCall, hca_call, hca_answer, AbiEvent, leaves, next, next_by, call_with, answer_with, input_of, AbiHappens, abi_calls, abi_began, UndoSized, AbiStand, stand_of, is_taken, AbiStep, Told, Says, AbiAlways, Linked}

-- THE NUMBER of a refusal is not 0
number_some : (w : Refusal) → eqb (number_of {A = Unit {0}} (refusal w)) 0 ≡ false
number_some x.Attributes = refl
number_some x.Owner = refl
number_some x.Reset = refl
number_some x.Bar = refl
number_some x.Memory = refl
number_some (x.Status y z) = refl
number_some (x.Timeout y) = refl
number_some x.Busy = refl
number_some (x.Bus y) = refl
number_some x.NotPrimary = refl
number_some (x.Revision y) = refl
number_some (x.MinPage y) = refl
number_some (x.Ports y) = refl
number_some (x.Uar y) = refl
number_some (x.UarArea y) = refl
number_some (x.Entry y) = refl
number_some (x.Total y) = refl
number_some x.Address = refl
number_some x.Full = refl
number_some x.Wrong = refl
number_some x.Short = refl
number_some x.Opcode = refl
number_some x.Undo = refl
number_some x.List = refl

not_zero : (n : ℕ) → eqb n 0 ≡ false → n ≡ 0 → ⊥
not_zero n h e = let z : ◌≡◌ {A = ℕ} 0 1 = ap (λ (b : Bool). pick b 1 0) (sym h ∙ ap (λ m. eqb m 0) e) in omega arith

-- WHAT BECOMES OF A CALL on bytes that hold s, where it leaves y and the session n: it was refused; or it is this turn of s
record Barred (y : After) (n s : Session) : Type 0 where
  code : y.code ≡ 0 → ⊥
  same : n ≡ s

record Took (y : After) (n : Session) (t : Turn) (i w : List ℕ) : Type 0 where
  good : t.refusal ≡ f.Nothing
  code : y.code ≡ 0
  inbox : y.inbox ≡ i
  session : n ≡ t.session
  told : y.out ≡ turn_in w t.question t.undo

by_refusal : (z : Failure) (t : Turn) → t.refusal ≡ z → (s : Session) (st i' o' w : List ℕ)
    → Barred (after (code_by z) st i' o' (out_by z t.question t.undo w)) (given_by z t.session s) s
    ⊎ Took (after (code_by z) st i' o' (out_by z t.question t.undo w)) (given_by z t.session s) t i' w
by_refusal f.Nothing t e s st i' o' w = inr (record { good = e; code = refl; inbox = refl; session = refl; told = refl })
by_refusal (f.By y) t e s st i' o' w = inl (record { code = not_zero (number_of {A = Unit {0}} (refusal y)) (number_some y); same = refl })

by_turn : (b r : Bool) (t : Turn) (s : Session) (s' i' o' st i o w : List ℕ)
    → Barred (pick b (pick r (after 21 st i o w) (taken t s' st i' o' w)) (after 20 st i o w)) (k.next_by b r t s) s
    ⊎ Took (pick b (pick r (after 21 st i o w) (taken t s' st i' o' w)) (after 20 st i o w)) (k.next_by b r t s) t i' w
by_turn true true t s s' i' o' st i o w = inl (record { code = λ e. not_zero 21 refl e; same = refl })
by_turn true false t s s' i' o' st i o w = by_refusal t.refusal t refl s _ i' o' w
by_turn false r t s s' i' o' st i o w = inl (record { code = λ e. not_zero 20 refl e; same = refl })

-- A TURN tells the question of the session that it leaves
abbrev Tells : Turn → Type 0
Tells t = t.question ≡ asks_of t.session

tells_time : (b r : Bool) (x y z : Turn) → Tells x → Tells y → Tells z → Tells (in_time b r x y z)
tells_time true true x y z p q s = p
tells_time true false x y z p q s = q
tells_time false r x y z p q s = s

call_tells : (s : Session) (c : Call) (y i o : List ℕ) (u : Top) → Tells (call_of s c y i o u)
unfolding begun_turn
call_tells s c y i o u = tells_time (callable s c) (lent_for c y i o u) _ _ _ (by (barredBy s c)) refl refl
  where
    by : (z : Failure) → Tells (unless z (begun_turn s c y i u) (λ w. refused_of s w u.count))
    by f.Nothing = refl
    by (f.By w) = refl

answer_tells : (s : Session) (v : Answer) (r i o : List ℕ) (u : Top) → Tells (answer_of s v r i o u)
unfolding step_of
answer_tells s v r i o u = tells_time (answerable s v) (is_lent i o u) _ _ _ (by (work_step_of s.work v r).ending) refl refl
  where
    by : (n : Ending) → Tells (step_turn (booked_of s v) v (work_step_of s.work v r).work i o u n)
    by e.Going = refl
    by (e.Ended y) = refl

-- a call and an answer of the session that the bytes hold
module _ (st i o w : List ℕ) (u : Top) (s : Session) (d : decode_of st ≡ value s) where
  called_seen : (c : Call) (y : List ℕ) → Barred (called c y u st i o w) (call_next c y u i o w s) s ⊎ Took (called c y u st i o w) (call_next c y u i o w s) (call_of s c y i o u) (call_in s c y i o u) w
  unfolding called call_known call_next
  called_seen c y = rw d (by_turn (callable s c) (ltb (length w) 40) (call_of s c y i o u) s (call_left c (call_of s c y i o u).session st) (call_in s c y i o u) (call_out s c y i o u) st i o w)

  answered_seen : (v : Answer) (r : List ℕ) → Barred (answered v r u st i o w) (answer_next v r u i o w s) s ⊎ Took (answered v r u st i o w) (answer_next v r u i o w s) (answer_of s v r i o u) (answer_in s v r i o u) w
  unfolding answered answer_known answer_next
  answered_seen v r =
      rw (head_known st s d) (by_turn (answerable s v) (ltb (length w) 40) (answer_of s v r i o u) s (answer_left s v r o (answer_of s v r i o u).session st) (answer_in s v r i o u) (answer_out s v r i o u) st i o w)

-- WHAT IS LENT has its types' widths
none_sized : (n : ℕ) → Typed (top_at n noRecord)
none_sized n = record { op_mod = omega arith; in_mod = omega arith; in_param = omega arith }

top_typed : (l : List Undo) (n : ℕ) → ((i : ℕ) → UndoSized (get_or l i noRecord)) → Typed (top_of l n)
top_typed l n h = top_cases Typed l n (none_sized 257) (none_sized 0) (let z = h (n - 1) in record { op_mod = z.op_mod; in_mod = z.in_mod; in_param = z.in_param })

-- A KIND that has no such number is refused, and not with 0; the numbers of a call are those of its type
abbrev SizedIn : Outcome Call → Type 0
SizedIn (value c) = SizedCall c
SizedIn (refused n vs) = eqb n 0 ≡ false

abbrev HeardIn : Outcome Answer → Type 0
HeardIn (value c) = Unit {0}
HeardIn (refused n vs) = eqb n 0 ≡ false

either : {A : Type 0} (P : A → Type 0) (b : Bool) (y z : A) → P y → P z → P (pick b y z)
either P true y z h g = h
either P false y z h g = g

made_sized : (j op m n v : ℕ) (r : Bool) → m < 2 ^ 8 → n < 2 ^ 32 → v < 2 ^ 64 → SizedIn (call_from j op m n v r)
made_sized j op m n v r a b c =
    let z : (y : Form) → SizedRequest (request_of y op m n v) = λ y. record { op_mod = a; in_mod = b; in_param = c } in
    let or = either SizedIn in
    or (eqb j 0) _ _ tt (or (eqb j 1) _ _ (z fm.Imm) (or (eqb j 2) _ _ (z fm.WithIn) (or (eqb j 3) _ _ (z fm.WithOut) (or (eqb j 4) _ _ (z fm.InImm) (or (eqb j 5) _ _ (z fm.InOut)
    (or (eqb j 6) _ _ tt (or (eqb j 7) _ _ tt (or (eqb j 8) _ _ tt (or (eqb j 9) _ _ tt refl)))))))))

heard_some : (j v w : ℕ) → HeardIn (heard_of j v w)
heard_some j v w =
    let or = either HeardIn in
    or (eqb j 1) _ _ (or (ltb v 65536) _ _ tt refl) (or (eqb j 2) _ _ (or (ltb v 4294967296) _ _ tt refl) (or (eqb j 3) _ _ tt (or (eqb j 4) _ _ tt (or (eqb j 5) _ _ tt
    (or (eqb j 6) _ _ tt (or (eqb j 7) _ _ tt (or (eqb j 8) _ _ tt refl)))))))

-- AN EVENT THAT IS REFUSED in any case: an answer with mailboxes of no bytes
abbrev no_top : Top
no_top = top_at 0 noRecord

abbrev idle : v.Event
idle = record { call = call_answer a.Done []; inbox = []; outbox = []; undo = no_top }

no_bytes : (k : ℕ) → get_or {A = ℕ} [] k 0 < 256
no_bytes k = omega arith

record Refuses (s : Session) : Type 0 where
  why : Refusal
  turn : answer_of s a.Done [] [] [] no_top ≡ refused_of s why 0

refuses : (s : Session) → Refuses s
refuses s = by (answerable s a.Done) refl
  where
    by : (b : Bool) → answerable s a.Done ≡ b → Refuses s
    by true e = record { why = x.Short; turn = rw e refl }
    by false e = record { why = x.Wrong; turn = rw e refl }

-- THE EVENT BY VALUE that stands for one on bytes
module _ (x : AbiStand) (s : Session) (e : AbiEvent) (y : AbiStand) (d : decode_of x.state ≡ value s) (st : AbiStep x s e y) where
  barred : Barred (leaves x.state e) (next e s) s → (g : v.Event) × v.Step (stand_of x s) g (stand_of y (next e s)) × Told x s e
  barred b =
      let z = refuses s in
      let why : (turn_by (call_answer a.Done []) s [] [] no_top).refusal ≡ f.By z.why = ap (λ (h : Turn). h.refusal) z.turn in (
        idle,
        record {
          session = b.same ∙ sym (ap (λ (h : Turn). h.session) z.turn);
          lendable = record { outbox = no_bytes; undo = none_sized 0 };
          sized = tt;
          lent = subst (λ (h : Failure). SameBox h [] x.inbox) (sym why) tt;
          left = st.kept b.code ∙ sym (ap (λ (h : Failure). box_left h (answer_in s a.Done [] [] [] no_top) x.inbox) why);
          between = st.between;
          happens = subst (λ (h : Failure). v.Happens h (call_answer a.Done []) s [] x.world st.between) (sym why) (st.rests b.code);
          world = st.world ∙ ap (λ (h : Bool). lends_to (pick h (lent_by y.calls (next e s)) none) st.between) (not_taken b) ∙ sym (ap (λ (h : Failure). lends_to (v.lent_now h y.calls (next e s)) st.between) why);
          calls = st.calls ∙ ap (λ (h : Bool). pick h (abi_calls (input_of e) x.calls) x.calls) (not_taken b) ∙ sym (ap (λ (h : Failure). calls_by h (call_answer a.Done []) x.calls) why);
          began =
              st.began ∙ ap (λ (h : Bool). pick h (abi_began (input_of e) x.calls (asked (asks_of s) (e).inbox) x.world.host x.began) x.began) (not_taken b)
              ∙ sym (ap (λ (h : Failure). began_now h (call_answer a.Done []) x.calls (asked (asks_of s) []) x.world.host x.began) why);
        },
        λ h. absurd (b.code h),
      )
    where
      not_taken : Barred (leaves x.state e) (next e s) s → is_taken x.state e ≡ false
      not_taken b = ne_eqb (leaves x.state e).code 0 b.code

  took : (c : Input) → SizedInput c → input_of e ≡ value c → Tells (turn_by c s (e).inbox (e).outbox (top_of (e).list (e).count))
      → Took (leaves x.state e) (next e s) (turn_by c s (e).inbox (e).outbox (top_of (e).list (e).count)) (inbox_by c s (e).inbox (e).outbox (top_of (e).list (e).count)) (e).out
      → (g : v.Event) × v.Step (stand_of x s) g (stand_of y (next e s)) × Told x s e
  took c size named tells t = (
    record { call = c; inbox = (e).inbox; outbox = (e).outbox; undo = top_of (e).list (e).count },
    record {
      session = t.session;
      lendable = record { outbox = st.outbox; undo = top_typed (e).list (e).count st.records };
      sized = size;
      lent = subst (λ (h : Failure). SameBox h (e).inbox x.inbox) (sym t.good) (st.lent t.code);
      left = st.left t.code ∙ t.inbox ∙ sym (ap (λ (h : Failure). box_left h (inbox_by c s (e).inbox (e).outbox (top_of (e).list (e).count)) x.inbox) t.good);
      between = st.between;
      happens =
          subst (λ (h : Failure). v.Happens h c s (e).inbox x.world st.between) (sym t.good)
          (subst (λ (h : Outcome Input). AbiHappens h s (e).inbox x.world st.between) named (st.happens t.code));
      world = st.world ∙ ap (λ (h : Bool). lends_to (pick h (lent_by y.calls (next e s)) none) st.between) is-taken ∙ sym (ap (λ (h : Failure). lends_to (v.lent_now h y.calls (next e s)) st.between) t.good);
      calls =
          st.calls ∙ ap (λ (h : Bool). pick h (abi_calls (input_of e) x.calls) x.calls) is-taken ∙ ap (λ (h : Outcome Input). abi_calls h x.calls) named
          ∙ sym (ap (λ (h : Failure). calls_by h c x.calls) t.good);
      began =
          st.began ∙ ap (λ (h : Bool). pick h (abi_began (input_of e) x.calls asks x.world.host x.began) x.began) is-taken
          ∙ ap (λ (h : Outcome Input). abi_began h x.calls asks x.world.host x.began) named ∙ sym (ap (λ (h : Failure). began_now h c x.calls asks x.world.host x.began) t.good);
    },
    λ h. (
      (turn_by c s (e).inbox (e).outbox (top_of (e).list (e).count)).undo,
      t.told ∙ ap (λ (z : Question). turn_in (e).out z (turn_by c s (e).inbox (e).outbox (top_of (e).list (e).count)).undo) (tells ∙ ap asks_of (sym t.session)),
    ),
  )
    where
      asks : Option Ask
      asks = asked (asks_of s) (e).inbox

      is-taken : is_taken x.state e ≡ true
      is-taken = eq-eqb (leaves x.state e).code 0 t.code

-- the events by their calls
translate : (x : AbiStand) (s : Session) (c : AbiCall) (i o : List ℕ) (l : List Undo) (n : ℕ) (w : List ℕ) (y : AbiStand) → decode_of x.state ≡ value s
    → AbiStep x s (record { call = c; inbox = i; outbox = o; list = l; count = n; out = w }) y
    → (g : v.Event) × v.Step (stand_of x s) g (stand_of y (next_by c (record { call = c; inbox = i; outbox = o; list = l; count = n; out = w }) s)) × Told x s (record { call = c; inbox = i; outbox = o; list = l; count = n; out = w })
unfolding made told known_next
translate x s (hca_call j op m q val input) i o l n w y d st = by (call_from j op m q val r) refl
  where
    r : Bool
    r = any_reserved (drop val (take n l))

    u : Top
    u = top_of l n

    e : AbiEvent
    e = record { call = hca_call j op m q val input; inbox = i; outbox = o; list = l; count = n; out = w }

    by : (z : Outcome Call) → call_from j op m q val (any_reserved (drop val (take n l))) ≡ z → (g : v.Event) × v.Step (stand_of x s) g (stand_of y (next e s)) × Told x s e
    by (value c) h =
        ⊎_elim (barred x s e y d st) (took x s e y d st (call_make c input) (subst SizedIn h (made_sized j op m q val r st.sized.0 st.sized.1 st.sized.2)) (ap (λ (g : Outcome Call). call_with g input) h) (call_tells s c input i o u))
        (subst (λ (g : Outcome Call). Barred (wanted_by g input u x.state i o w) (wanted_next g input u i o w s) s
        ⊎ Took (wanted_by g input u x.state i o w) (wanted_next g input u i o w s) (call_of s c input i o u) (call_in s c input i o u) w) (sym h) (called_seen x.state i o w u s d c input))
    by (refused k vs) h =
        barred x s e y d st
        (subst (λ (g : Outcome Call). Barred (wanted_by g input u x.state i o w) (wanted_next g input u i o w s) s) (sym h)
        (record { code = not_zero k (subst SizedIn h (made_sized j op m q val r st.sized.0 st.sized.1 st.sized.2)); same = refl }))
translate x s (hca_answer j p q res) i o l n w y d st = by (heard_of j p q) refl
  where
    u : Top
    u = top_of l n

    e : AbiEvent
    e = record { call = hca_answer j p q res; inbox = i; outbox = o; list = l; count = n; out = w }

    by : (z : Outcome Answer) → heard_of j p q ≡ z → (g : v.Event) × v.Step (stand_of x s) g (stand_of y (next e s)) × Told x s e
    by (value c) h =
        ⊎_elim (barred x s e y d st) (took x s e y d st (call_answer c res) tt (ap (λ (g : Outcome Answer). answer_with g res) h) (answer_tells s c res i o u))
        (subst (λ (g : Outcome Answer). Barred (heard_by g res u x.state i o w) (heard_next g res u i o w s) s
        ⊎ Took (heard_by g res u x.state i o w) (heard_next g res u i o w s) (answer_of s c res i o u) (answer_in s c res i o u) w) (sym h)
        (subst (λ (g : After). Barred g (answer_next c res u i o w s) s ⊎ Took g (answer_next c res u i o w s) (answer_of s c res i o u) (answer_in s c res i o u) w)
        (sym (poll_is_whole c res u x.state i o w s st.bytes d)) (answered_seen x.state i o w u s d c res)))
    by (refused k vs) h =
        barred x s e y d st
        (subst (λ (g : Outcome Answer). Barred (heard_by g res u x.state i o w) (heard_next g res u i o w s) s) (sym h)
        (record { code = not_zero k (subst HeardIn h (heard_some j p q)); same = refl }))

-- WHAT THE LOADER READS
once : (b : Bool) (w ws : List ℕ) → pick b (reads 21 w) (reads 0 (pick b w ws)) ≡ pick b (reads 21 w) (reads 0 ws)
once true w ws = refl
once false w ws = refl

says : (st : List ℕ) (s : Session) → decode_of st ≡ value s → Says st s
unfolding result result_known books books_known books_in
says st s d = record {
  result = λ w. ap (λ (z : Outcome Session). of_session z (λ y. result_known y w) w) d;
  books = λ w. ap (λ (z : Outcome Session). of_session z (λ y. books_known y w) w) d ∙ once (ltb (length w) (BOOKS * 8)) w (put_words w 0 (books_words s));
}

-- AND SO ON, along every list
lift : (base : ℕ → Option Hold) (es : List AbiEvent) (x : AbiStand) (s : Session) → decode_of x.state ≡ value s → ((gs : List v.Event) → w.Always base gs (stand_of x s)) → AbiAlways base es x
unfolding Holds Keeps
lift base [] x s d all = (s, record { holds = d; good = all []; says = says x.state s d })
lift base (e ∷ es) x s d all = (
  s,
  record { holds = d; good = all []; says = says x.state s d },
  λ y st.
      let g = translate x s (e).call (e).inbox (e).outbox (e).list (e).count (e).out y d st in (
        g.2,
        ((all (g.0 ∷ [])).1 (stand_of y (next e s)) g.1).0,
        lift base es y (next e s) (st.holds s d) (λ gs. ((all (g.0 ∷ gs)).1 (stand_of y (next e s)) g.1).1),
      ),
)

pub linked : Linked
linked x s es = lift x.world.host.hand es x _ s.session (λ gs. demand (stand_of x _) (record { session = refl; calls = s.calls; began = s.began; log = s.log; inbox = s.inbox; outbox = s.outbox }) gs)
