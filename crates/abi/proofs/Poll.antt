-- Where the bytes hold a session, an answer by the words of a command that goes on is the answer by the whole session, in every phase of the command: `poll_is_whole`.
use Prim.Native.Nat.{ℕ, ◌+◌, ◌*◌, ◌^◌, ◌≤◌, ◌<◌}
use mathlib.Core.Bool.{Bool, true, false, ◌&&◌, not}
use mathlib.Core.Path.{◌≡◌, refl, ap, sym, subst, ◌∙◌}
use mathlib.Core.List.{List, [], ◌∷◌, ◌++◌}
use native.Mathlib.Omega.{arith}
use borrow.Author.Tests.{ltb-true, ltb-false, leb-true, lt-leb, le-ltb, le-leb}
use lib.ListN.{length, get_or}
use lib.Dec.{eqb, ltb, leb}
use Rattle.fields.specs.Outcome.{value, pick}
use Rattle.fields.proofs.Laws.{Bytes}
use Rattle.hcr.specs.Words.{pending_in, status_in, swap_of, stall_of, waited_of}
use Rattle.hcr.proofs.Laws.{no_sooner}
use Rattle.words.specs.Words.{at, words_in, put_words, bit_of}
use Rattle.words.proofs.Laws.{BytesFrom, bit_back, put_append, words_after, words_agree, words_same, length_words}
use Rattle.words_task.specs.Coding.{task_words, task_of, cmd_words, cmd_of, phase_words, catas_words}
use Rattle.words.specs.Places.{state_bytes}
use Rattle.words_session.specs.Image.{decode_of, put_task}
use Rattle.words_laws.specs.Kept.{with_task}
use Rattle.words_laws.proofs.Parts.{given, decode_parts}
use Rattle.behind.proofs.Laws.{put_long}
use Rattle.intask.specs.InTask.{beside_in}
use Rattle.booking.specs.Booking.{is_deal}
use Rattle.command.specs.Script.{STALLS}
use Rattle.command.specs.Machine.{in_phase, stalled_by, posted, cmd_asks, cmd_step_of}
use Rattle.command.specs.declared.Cmd.{Cmd}
use Rattle.command.specs.declared.CmdStep.TheVariants as cs
use Rattle.command.specs.declared.Phase.{Phase}
use Rattle.command.specs.declared.Phase.TheVariants as ph
use Rattle.work.specs.declared.Task.{Task}
use Rattle.work.specs.declared.Task.TheVariants as t
use Rattle.work.specs.Work.{work_step_of}
use Rattle.work.specs.declared.Ending.TheVariants as e
use Rattle.work.specs.declared.WorkStep.{WorkStep}
use Rattle.fw_plan.specs.Calls.{asks_of, is_allocate, wants, answers_by, booked_by, step_of, step_in, step_out}
use Rattle.words_calls.specs.Calls.{turn_in}
use Rattle.pci.specs.Suits.{suits_of}
use Rattle.pci.specs.declared.Question.{Question}
use Rattle.pci.specs.declared.Question.TheVariants as q
use Rattle.pci.specs.declared.Answer.{Answer}
use Rattle.pci.specs.declared.Answer.TheVariants as a
use Rattle.session.specs.Course.{Place, neither, inbox, outbox, slot}
use Rattle.session.specs.declared.Books.{Books}
use Rattle.session.specs.declared.Top.{Top}
use Rattle.session.specs.declared.Session.{Session}
use Rattle.in_place.specs.InPlace.{after as comes, next_of, first_words, ready_for, onward_of, goes_on, state_after, asked, out_after}
use Rattle.in_place.specs.declared.Next.{Next}
use Rattle.in_place.specs.declared.Next.TheVariants as n
use Rattle.abi.specs.Turns.{After, after, answer_known, answered}
use Rattle.abi.specs.Calls.{onward_by, answer}
use Rattle.abi.proofs.Calls.{not_so}
use Rattle.abi.proofs.Onward.{on_to}
use Rattle.abi.proofs.Turns.{head_known}

-- the task's words, where there are so many bytes
abbrev pub put_hot : List ℕ → Task → List ℕ
put_hot s k = put_words s 0 (task_words k)

-- the values that come with the command that goes on are the command's
abbrev pub Known : Cmd → Next → Type 0
Known c (n.Write i) = i < 2 ^ 8
Known c n.Fence = Unit {0}
Known c n.Go = Unit {0}
Known c (n.Posted g) = g ≡ bit_of (not c.toggle)
Known c (n.Stall us) = us ≡ stall_of c.stalls
Known c (n.Read m) = m < 2 ^ 32
Known c n.Fenced = Unit {0}
Known c n.Status = Unit {0}
Known c n.High = Unit {0}
Known c (n.Low v) = v < 2 ^ 32
Known c n.Other = Unit {0}

-- the command takes the answer, and goes on so
pub record Took (c : Cmd) (x : Answer) (z : Next) : Type 0 where
  pub suits : suits_of (cmd_asks c) x ≡ true
  pub still : is_allocate (cmd_asks c) ≡ false
  pub deal : is_deal (cmd_asks c) ≡ false
  pub step : cmd_step_of c x ≡ cs.More (on_to c z)
  pub known : Known c z

abbrev Takes : Cmd → Answer → Next → Type 0
Takes c x z = goes_on z ≡ true → Took c x z

-- EACH PHASE, by the tests that decide it: a register was read
module _ (c : Cmd) (v : ℕ) where
  first_takes : c.phase ≡ ph.First → (b : Bool) → pending_in (swap_of v) c.toggle ≡ b → Takes c (a.Dword v) (pick b n.Other (n.Write 0))
  unfolding cmd_asks cmd_step_of
  first_takes h true e g = not_so g
  first_takes h false e g = record { suits = simp (h); still = simp (h); deal = simp (h); step = simp (h, e); known = omega arith }

  poll_takes : c.phase ≡ ph.Poll → (b d : Bool) → pending_in (swap_of v) c.toggle ≡ b → ltb c.stalls STALLS ≡ d
      → Takes c (a.Dword v) (pick b (pick d (n.Stall (stall_of c.stalls)) n.Other) n.Fenced)
  unfolding cmd_asks cmd_step_of
  poll_takes h true true e d g =
      let soon = lt-leb 60000000 (waited_of c.stalls) (no_sooner c.stalls (ltb-true c.stalls STALLS d)) in
      record { suits = simp (h); still = simp (h); deal = simp (h); step = simp (h, e, soon); known = refl }
  poll_takes h true false e d g = not_so g
  poll_takes h false b e d g = record { suits = simp (h); still = simp (h); deal = simp (h); step = simp (h, e); known = tt }

  status_takes : c.phase ≡ ph.Status → (b : Bool) → eqb (status_in (swap_of v)) 0 ≡ b → Takes c (a.Dword v) (pick b n.High n.Other)
  unfolding cmd_asks cmd_step_of
  status_takes h true e g = record { suits = simp (h); still = simp (h); deal = simp (h); step = simp (h, e); known = tt }
  status_takes h false e g = not_so g

  high_takes : c.phase ≡ ph.High → Takes c (a.Dword v) (n.Low (swap_of v))
  unfolding cmd_asks cmd_step_of
  high_takes h g = record { suits = simp (h); still = simp (h); deal = simp (h); step = simp (h); known = omega arith }

-- a write, a fence or a stall was made
module _ (c : Cmd) where
  write_takes : (i : ℕ) → c.phase ≡ ph.Writing i → (b : Bool) → ltb i 5 ≡ b → Takes c a.Done (pick b (n.Write (i + 1)) n.Fence)
  unfolding cmd_asks cmd_step_of
  write_takes i h true e g = let l = ltb-true i 5 e in record { suits = simp (h); still = simp (h); deal = simp (h); step = simp (h, e); known = omega arith }
  write_takes i h false e g = record { suits = simp (h); still = simp (h); deal = simp (h); step = simp (h, e); known = tt }

  fence_takes : c.phase ≡ ph.Fence → Takes c a.Done n.Go
  unfolding cmd_asks cmd_step_of
  fence_takes h g = record { suits = simp (h); still = simp (h); deal = simp (h); step = simp (h); known = tt }

  go_takes : c.phase ≡ ph.Go → Takes c a.Done (n.Posted (bit_of (not c.toggle)))
  unfolding cmd_asks cmd_step_of
  go_takes h g = record { suits = simp (h); still = simp (h); deal = simp (h); step = simp (h); known = refl }

  wait_takes : c.phase ≡ ph.Wait → (b : Bool) → ltb c.stalls STALLS ≡ b → Takes c a.Done (pick b (n.Read (c.stalls + 1)) n.Other)
  unfolding cmd_asks cmd_step_of
  wait_takes h true e g = let l = ltb-true c.stalls STALLS e in record { suits = simp (h); still = simp (h); deal = simp (h); step = simp (h, e); known = omega arith }
  wait_takes h false e g = not_so g

  fenced_takes : c.phase ≡ ph.Fenced → Takes c a.Done n.Status
  unfolding cmd_asks cmd_step_of
  fenced_takes h g = record { suits = simp (h); still = simp (h); deal = simp (h); step = simp (h); known = tt }

-- EVERY ANSWER, by the phase
module _ (c : Cmd) where
  -- the toggle as its word has it
  by_toggle : {A : Type 0} (f : Bool → A) → f (eqb (bit_of c.toggle) 1) ≡ f c.toggle
  by_toggle f = ap f (bit_back c.toggle)

  read_takes : (v : ℕ) (f : Phase) → c.phase ≡ f → Takes c (a.Dword v) (comes (cmd_words (in_phase c f)) (a.Dword v))
  read_takes v ph.First h g =
      let e = by_toggle (λ (y : Bool). pick (pending_in (swap_of v) y) n.Other (n.Write 0)) in
      subst (Took c (a.Dword v)) (sym e) (first_takes c v h (pending_in (swap_of v) c.toggle) refl (sym (ap goes_on e) ∙ g))
  read_takes v ph.Poll h g =
      let e = by_toggle (λ (y : Bool). pick (pending_in (swap_of v) y) (pick (ltb c.stalls STALLS) (n.Stall (stall_of c.stalls)) n.Other) n.Fenced) in
      subst (Took c (a.Dword v)) (sym e) (poll_takes c v h (pending_in (swap_of v) c.toggle) (ltb c.stalls STALLS) refl refl (sym (ap goes_on e) ∙ g))
  read_takes v ph.Status h g = status_takes c v h (eqb (status_in (swap_of v)) 0) refl g
  read_takes v ph.High h g = high_takes c v h g
  read_takes v (ph.Writing i) h g = not_so g
  read_takes v ph.Fence h g = not_so g
  read_takes v ph.Go h g = not_so g
  read_takes v ph.Wait h g = not_so g
  read_takes v ph.Fenced h g = not_so g
  read_takes v (ph.Low i) h g = not_so g
  read_takes v ph.Catas h g = not_so g

  done_takes : (f : Phase) → c.phase ≡ f → Takes c a.Done (comes (cmd_words (in_phase c f)) a.Done)
  done_takes (ph.Writing i) h g = write_takes c i h (ltb i 5) refl g
  done_takes ph.Fence h g = fence_takes c h g
  done_takes ph.Go h g =
      let e = by_toggle (λ (y : Bool). n.Posted (bit_of (not y))) in subst (Took c a.Done) (sym e) (go_takes c h (sym (ap goes_on e) ∙ g))
  done_takes ph.Wait h g = wait_takes c h (ltb c.stalls STALLS) refl g
  done_takes ph.Fenced h g = fenced_takes c h g
  done_takes ph.First h g = not_so g
  done_takes ph.Poll h g = not_so g
  done_takes ph.Status h g = not_so g
  done_takes ph.High h g = not_so g
  done_takes (ph.Low i) h g = not_so g
  done_takes ph.Catas h g = not_so g

  pub takes : (x : Answer) → Takes c x (comes (cmd_words c) x)
  takes (a.Dword v) = read_takes v c.phase refl
  takes a.Done = done_takes c.phase refl
  takes (a.Word v) = λ g. not_so g
  takes (a.Qword v) = λ g. not_so g
  takes a.Failed = λ g. not_so g
  takes (a.Handle v) = λ g. not_so g
  takes (a.Mapped v x) = λ g. not_so g
  takes a.List = λ g. not_so g

-- a task that goes on so is a command
pub record Going (k : Task) (x : Answer) (z : Next) : Type 0 where
  pub cmd : Cmd
  pub is : k ≡ t.Cmd cmd
  pub took : Took cmd x z

pub going : (k : Task) (x : Answer) → goes_on (next_of (task_words k) x) ≡ true → Going k x (next_of (task_words k) x)
going (t.Cmd c) x g = record { cmd = c; is = refl; took = takes c x g }
going t.Rest x g = not_so g
going (t.Attr y) x g = not_so g
going (t.Claim y) x g = not_so g
going t.Reset x g = not_so g
going t.Bar x g = not_so g
going (t.Make y) x g = not_so g
going (t.Free y) x g = not_so g
going t.Look x g = not_so g
going (t.Part y) x g = not_so g

-- THE BYTES. Words that stand already but for some: only those are written
some : (s : List ℕ) (k : ℕ) (pre mid post : List ℕ) → BytesFrom s (k * 8) → words_in s k (length pre) ≡ pre
    → words_in s (k + length pre + length mid) (length post) ≡ post → put_words s k (pre ++ (mid ++ post)) ≡ put_words s (k + length pre) mid
some s k pre mid post b e d =
    let j = k + length pre in
    let x = put_words s j mid in
    let far : (i : ℕ) → (j + length mid) * 8 ≤ i → get_or x i 0 ≡ get_or s i 0 = λ i h. words_after s j mid i h in
    let same : put_words s k pre ≡ s = ap (put_words s k) (sym e) ∙ words_same s k (length pre) b in
    let tail : words_in x (j + length mid) (length post) ≡ post = words_agree x s (j + length mid) (length post) (λ i h l. far i h) ∙ d in
    put_append s k pre (mid ++ post) ∙ ap (λ (y : List ℕ). put_words y j (mid ++ post)) same ∙ put_append s j mid post
    ∙ ap (put_words x (j + length mid)) (sym tail) ∙ words_same x (j + length mid) (length post) (λ i h. let f = far i h in let c = b i (omega arith) in omega arith)

-- the words of a command behind its phase, up to its toggle; and behind its stalls
abbrev behind_phase : Cmd → List ℕ
behind_phase c = c.post.op ∷ c.post.op_mod ∷ c.post.in_mod ∷ c.post.in_param ∷ c.post.out_param ∷ []

abbrev behind_stalls : Cmd → List ℕ
behind_stalls c = at (catas_words c.catas) 0 ∷ at (catas_words c.catas) 1 ∷ at (catas_words c.catas) 2 ∷ []

module _ (s : List ℕ) (c : Cmd) (b : Bytes s) (d : words_in s 0 13 ≡ cmd_words c) where
  -- another phase
  phase_bytes : (f : Phase) → put_hot s (t.Cmd (in_phase c f)) ≡ put_words s 1 (at (phase_words f) 0 ∷ at (phase_words f) 1 ∷ [])
  unfolding words_in
  phase_bytes f =
      some s 0 (8 ∷ []) (at (phase_words f) 0 ∷ at (phase_words f) 1 ∷ []) (behind_phase c ++ (bit_of c.toggle ∷ c.stalls ∷ behind_stalls c)) (λ i g. b i) (ap (λ (w : List ℕ). at w 0 ∷ []) d)
      (ap (λ (w : List ℕ). at w 3 ∷ at w 4 ∷ at w 5 ∷ at w 6 ∷ at w 7 ∷ at w 8 ∷ at w 9 ∷ at w 10 ∷ at w 11 ∷ at w 12 ∷ []) d)

  -- the phase of a poll, and words from k on behind it, up to the stalls
  abbrev polling : List ℕ
  polling = put_words s 1 (4 ∷ 0 ∷ [])

  far : (i : ℕ) → 24 ≤ i → get_or polling i 0 ≡ get_or s i 0
  far i g = words_after s 1 (4 ∷ 0 ∷ []) i g

  polls : (i : ℕ) → 24 ≤ i → get_or polling i 0 < 256
  polls i g = let f = far i g in let z = b i in omega arith

  stalls_bytes : (m : ℕ) → put_hot s (t.Cmd (stalled_by c m)) ≡ put_words polling 9 (m ∷ [])
  unfolding words_in
  stalls_bytes m =
      put_append s 0 (8 ∷ 4 ∷ 0 ∷ (behind_phase c ++ (bit_of c.toggle ∷ []))) (m ∷ behind_stalls c)
      ∙ ap (λ (y : List ℕ). put_words y 9 (m ∷ behind_stalls c))
      (some s 0 (8 ∷ []) (4 ∷ 0 ∷ []) (behind_phase c ++ (bit_of c.toggle ∷ [])) (λ i g. b i) (ap (λ (w : List ℕ). at w 0 ∷ []) d)
      (ap (λ (w : List ℕ). at w 3 ∷ at w 4 ∷ at w 5 ∷ at w 6 ∷ at w 7 ∷ at w 8 ∷ []) d))
      ∙ some polling 9 [] (m ∷ []) (behind_stalls c) (λ i g. polls i (omega arith)) refl
      (words_agree polling s 10 3 (λ i g l. far i (omega arith)) ∙ ap (λ (w : List ℕ). at w 10 ∷ at w 11 ∷ at w 12 ∷ []) d)

  posted_bytes : put_hot s (t.Cmd (posted c)) ≡ put_words polling 8 (bit_of (not c.toggle) ∷ 0 ∷ [])
  unfolding words_in
  posted_bytes =
      put_append s 0 (8 ∷ 4 ∷ 0 ∷ behind_phase c) (bit_of (not c.toggle) ∷ 0 ∷ behind_stalls c)
      ∙ ap (λ (y : List ℕ). put_words y 8 (bit_of (not c.toggle) ∷ 0 ∷ behind_stalls c))
      (some s 0 (8 ∷ []) (4 ∷ 0 ∷ []) (behind_phase c) (λ i g. b i) (ap (λ (w : List ℕ). at w 0 ∷ []) d)
      (ap (λ (w : List ℕ). at w 3 ∷ at w 4 ∷ at w 5 ∷ at w 6 ∷ at w 7 ∷ []) d))
      ∙ some polling 8 [] (bit_of (not c.toggle) ∷ 0 ∷ []) (behind_stalls c) (λ i g. polls i (omega arith)) refl
      (words_agree polling s 10 3 (λ i g l. far i (omega arith)) ∙ ap (λ (w : List ℕ). at w 10 ∷ at w 11 ∷ at w 12 ∷ []) d)

  -- what is written is the task that goes on
  module _ (long : state_bytes ≤ length s) where
    to : (f : Phase) → pick (leb 24 (length s)) (put_words s 1 (at (phase_words f) 0 ∷ at (phase_words f) 1 ∷ [])) s ≡ put_hot s (t.Cmd (in_phase c f))
    to f = rw (le-leb 24 (length s) (omega arith)) (sym (phase_bytes f))

    enough : (m : ℕ) → m ≤ 80 → leb m (length polling) ≡ true
    enough m h = let l = length_words s 1 (4 ∷ 0 ∷ []) in le-leb m (length polling) (omega arith)

    pub written : (z : Next) → goes_on z ≡ true → Known c z → state_after z s ≡ put_hot s (t.Cmd (on_to c z))
    written (n.Write i) g k = to (ph.Writing i)
    written n.Fence g k = to ph.Fence
    written n.Go g k = to ph.Go
    written (n.Posted y) g k = rw (le-leb 24 (length s) (omega arith), enough 80 (omega arith), k) (sym posted_bytes)
    written (n.Stall us) g k = to ph.Wait
    written (n.Read m) g k = rw (le-leb 24 (length s) (omega arith), enough 80 (omega arith)) (sym (stalls_bytes m))
    written n.Fenced g k = to ph.Fenced
    written n.Status g k = to ph.Status
    written n.High g k = to ph.High
    written (n.Low v) g k = to (ph.Low v)
    written n.Other g k = not_so g

-- THE QUESTION: that of the task that goes on
pub asks_on : (s : List ℕ) (c : Cmd) → state_bytes ≤ length s → cmd_of (words_in s 0 13) ≡ c → (z : Next) → goes_on z ≡ true → Known c z → asked z s ≡ cmd_asks (on_to c z)
unfolding cmd_asks words_in
asks_on s c long e (n.Write i) g k = rw (le-leb 72 (length s) (omega arith)) (ap (λ (y : Cmd). cmd_asks (in_phase y (ph.Writing i))) e)
asks_on s c long e n.Fence g k = refl
asks_on s c long e n.Go g k = rw (le-leb 72 (length s) (omega arith)) (ap (λ (y : Cmd). cmd_asks (in_phase y ph.Go)) e)
asks_on s c long e (n.Posted y) g k = refl
asks_on s c long e (n.Stall us) g k = rw k refl
asks_on s c long e (n.Read m) g k = refl
asks_on s c long e n.Fenced g k = refl
asks_on s c long e n.Status g k = refl
asks_on s c long e n.High g k = refl
asks_on s c long e (n.Low v) g k = refl
asks_on s c long e n.Other g k = not_so g

-- WHAT IS LENT is long enough
and_true : (b d : Bool) → b && d ≡ true → (b ≡ true) × (d ≡ true)
and_true true d e = (refl, e)
and_true false d e = not_so e

not_true : (b : Bool) → not b ≡ true → b ≡ false
not_true true e = not_so e
not_true false e = refl

pub record Ready (s i b : List ℕ) (m : ℕ) (w : List ℕ) : Type 0 where
  pub enough : state_bytes ≤ length s
  pub lent : eqb (length i) 4096 && (eqb (length b) 4096 && leb m 256) ≡ true
  pub room : ltb (length w) 40 ≡ false

pub ready : (s i b : List ℕ) (m : ℕ) (w : List ℕ) → ready_for s i b m w ≡ true → Ready s i b m w
ready s i b m w e =
    let q = and_true (not (ltb (length s) state_bytes)) (eqb (length i) 4096 && (eqb (length b) 4096 && (not (ltb 256 m) && leb 40 (length w)))) e in
    let q1 = and_true (eqb (length i) 4096) (eqb (length b) 4096 && (not (ltb 256 m) && leb 40 (length w))) q.1 in
    let q2 = and_true (eqb (length b) 4096) (not (ltb 256 m) && leb 40 (length w)) q1.1 in
    let q3 = and_true (not (ltb 256 m)) (leb 40 (length w)) q2.1 in
    let few : m ≤ 256 = ltb-false 256 m (not_true (ltb 256 m) q3.0) in
    record {
      enough = ltb-false (length s) state_bytes (not_true (ltb (length s) state_bytes) q.0);
      lent = rw (q1.0, q2.0, le-leb m 256 few) refl;
      room = le-ltb (length w) 40 (leb-true 40 (length w) q3.1);
    }

-- THE ANSWER by the whole session, where its task goes on and no mailbox is zeroed
pub record Goes (x : Session) (v : Answer) (r : List ℕ) (k : Task) : Type 0 where
  pub suits : suits_of (asks_of x) v ≡ true
  pub still : is_allocate (asks_of x) ≡ false
  pub deal : is_deal (asks_of x) ≡ false
  pub beside : (z : WorkStep) (s : List ℕ) → beside_in x.work.task z s ≡ s
  pub next : work_step_of x.work v r ≡ record { work = record { task = k; reset = x.work.reset; find = x.work.find }; ending = e.Going }

-- a question that deals in no pages leaves the books
not_dealt : (i w : ℕ) (y : Question) (v : Answer) (l : Books) → is_deal y ≡ false → answers_by i w y v l ≡ l
not_dealt i w (q.ConfigRead16 o) v l h = refl
not_dealt i w (q.ConfigRead32 o) v l h = refl
not_dealt i w (q.ConfigWrite16 o z) v l h = refl
not_dealt i w (q.ConfigWrite32 o z) v l h = refl
not_dealt i w (q.RegRead k o) v l h = refl
not_dealt i w (q.RegWrite k o z) v l h = refl
not_dealt i w (q.Attributes o z) v l h = refl
not_dealt i w (q.Resource k) v l h = refl
not_dealt i w (q.Stall us) v l h = refl
not_dealt i w (q.Allocate n) v l h = not_so (sym h)
not_dealt i w (q.Map k n) v l h = not_so (sym h)
not_dealt i w (q.Unmap k) v l h = not_so (sym h)
not_dealt i w (q.Free k n) v l h = not_so (sym h)
not_dealt i w q.Fence v l h = refl
not_dealt i w q.Finished v l h = refl

pub no_deal : (p : Place) (y : Question) (v : Answer) (l : Books) → is_deal y ≡ false → booked_by p y v l ≡ l
no_deal neither y v l h = refl
no_deal inbox y v l h = not_dealt 80 0 y v l h
no_deal outbox y v l h = not_dealt 81 0 y v l h
no_deal (slot i w) y v l h = not_dealt i w y v l h

goes_whole : (x : Session) (v : Answer) (r : List ℕ) (u : Top) (s i b w : List ℕ) (k : Task) → decode_of s ≡ value x → Ready s i b u.count w
    → Goes x v r k → after 0 (put_hot s k) i b (turn_in w (asks_of (with_task x k)) u.count) ≡ answered v r u s i b w
unfolding answered answer_known step_of step_in step_out
goes_whole x v r u s i b w k d y g =
    let p = decode_parts s x d in
    let wrote : put_task k s ≡ put_hot s k = sym (put_long 0 (task_words k) s y.enough) in
    let booked : booked_by (wants x) (asks_of x) v x.books ≡ x.books = no_deal (wants x) (asks_of x) v x.books g.deal in
    sym (simp (head_known s x d, le-leb x.books.lists.ranges 14 p.ranges, le-leb x.books.lists.lends 64 p.lends, g.suits, y.lent, y.room, booked, g.next, g.still, g.deal, g.beside, wrote))

-- the words of the task
pub task_words_lem : (s : List ℕ) (x : Session) → decode_of s ≡ value x → words_in s 0 13 ≡ task_words x.work.task
task_words_lem s x d = (decode_parts s x d).task.0

task_next : (s : List ℕ) (x : Session) (v : Answer) → decode_of s ≡ value x → state_bytes ≤ length s → next_of (first_words s) v ≡ next_of (task_words x.work.task) v
unfolding words_in
task_next s x v d h =
    let near : next_of (first_words s) v ≡ next_of (words_in s 0 13) v = rw (le-leb 80 (length s) (omega arith)) (firsts v) in
    near ∙ ap (λ (w : List ℕ). next_of w v) (task_words_lem s x d)
  where
    firsts : (y : Answer) → next_of (words_in s 0 10) y ≡ next_of (words_in s 0 13) y
    firsts (a.Dword z) = refl
    firsts a.Done = refl
    firsts (a.Word z) = refl
    firsts (a.Qword z) = refl
    firsts a.Failed = refl
    firsts (a.Handle z) = refl
    firsts (a.Mapped z o) = refl
    firsts a.List = refl

-- the command, as the words have it
abbrev cmd_or : Cmd → Task → Cmd
cmd_or d (t.Cmd c) = c
cmd_or d t.Rest = d
cmd_or d (t.Attr y) = d
cmd_or d (t.Claim y) = d
cmd_or d t.Reset = d
cmd_or d t.Bar = d
cmd_or d (t.Make y) = d
cmd_or d (t.Free y) = d
cmd_or d t.Look = d
cmd_or d (t.Part y) = d

pub task_cmd : (s : List ℕ) (x : Session) (c : Cmd) → decode_of s ≡ value x → x.work.task ≡ t.Cmd c → cmd_of (words_in s 0 13) ≡ c
task_cmd s x c d is =
    let w = words_in s 0 13 in
    let head : at w 0 ≡ 8 = ap (λ (l : List ℕ). at l 0) (task_words_lem s x d ∙ ap task_words is) in
    let here : task_of w ≡ t.Cmd (cmd_of w) = rw head refl in
    let read : task_of w ≡ t.Cmd c = ap (λ (z : Session). z.work.task) (given s x d).reads ∙ is in
    ap (cmd_or c) (sym here ∙ read)

-- BYTES THAT HOLD A SESSION whose command goes on
module _ (v : Answer) (r : List ℕ) (u : Top) (s i b w : List ℕ) (x : Session) (bs : Bytes s) (d : decode_of s ≡ value x) where
  -- what is known where the answer leads on
  pub record On (z : Next) : Type 0 where
    pub lent : Ready s i b u.count w
    pub cmd : Cmd
    pub is : x.work.task ≡ t.Cmd cmd
    pub took : Took cmd v z
    pub goes : Goes x v r (t.Cmd (on_to cmd z))
    pub bytes : state_after z s ≡ put_hot s (t.Cmd (on_to cmd z))

  leads : (q : Bool) (z y : Next) → pick q z n.Other ≡ y → goes_on y ≡ true → (q ≡ true) × (z ≡ y)
  leads true z y e g = (refl, e)
  leads false z y e g = not_so (ap goes_on e ∙ g)

  pub on : (z : Next) → onward_of s v i b u.count w ≡ z → goes_on z ≡ true → On z
  on z e g =
      let q = leads (ready_for s i b u.count w) (next_of (first_words s) v) z e g in
      let y = ready s i b u.count w q.0 in
      let here : next_of (task_words x.work.task) v ≡ z = sym (task_next s x v d y.enough) ∙ q.1 in
      let m = going x.work.task v (ap goes_on here ∙ g) in
      let took = subst (Took m.cmd v) here m.took in
      record {
        lent = y;
        cmd = m.cmd;
        is = m.is;
        took = took;
        goes = record { suits = simp (m.is, took.suits); still = simp (m.is, took.still); deal = simp (m.is, took.deal); beside = λ z s. ap (λ (k : Task). beside_in k z s) m.is; next = simp (m.is, took.step) };
        bytes = written s m.cmd bs (task_words_lem s x d ∙ ap task_words m.is) y.enough z g took.known;
      }

  on_is : (z : Next) → goes_on z ≡ true → On z → after 0 (state_after z s) i b (out_after z s w u.count) ≡ answered v r u s i b w
  on_is z g o =
      let y = o.lent in
      let asks = asks_on s o.cmd y.enough (task_cmd s x o.cmd d o.is) z g o.took.known in
      let out : out_after z s w u.count ≡ turn_in w (asks_of (with_task x (t.Cmd (on_to o.cmd z)))) u.count = rw g (ap (λ (p : Question). turn_in w p u.count) asks) in
      ap (λ (l : List ℕ). after 0 l i b (out_after z s w u.count)) o.bytes ∙ ap (λ (l : List ℕ). after 0 (put_hot s (t.Cmd (on_to o.cmd z))) i b l) out
      ∙ goes_whole x v r u s i b w (t.Cmd (on_to o.cmd z)) d y o.goes

-- AN ANSWER by the words of its command is the answer by the whole session
pub poll_is_whole : (v : Answer) (r : List ℕ) (u : Top) (s i b w : List ℕ) (x : Session) → Bytes s → decode_of s ≡ value x → answer v r u s i b w ≡ answered v r u s i b w
unfolding answer
poll_is_whole v r u s i b w x bs d = by (goes_on (onward_of s v i b u.count w)) refl
  where
    z : Next
    z = onward_of s v i b u.count w

    by : (q : Bool) → goes_on z ≡ q → pick q (after 0 (state_after z s) i b (out_after z s w u.count)) (answered v r u s i b w) ≡ answered v r u s i b w
    by true g = on_is v r u s i b w x bs d z g (on v r u s i b w x bs d z refl g)
    by false g = refl
