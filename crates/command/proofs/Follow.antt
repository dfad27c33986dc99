-- Each state of the command machine does what is left of the script, and no other answer moves it.
use Prim.Native.Nat.{ℕ, zero, suc, ◌+◌, ◌-◌, ◌*◌, ◌≤◌, ◌<◌}
use mathlib.Core.Bool.{Bool, true, false}
use mathlib.Core.List.{List}
use mathlib.Core.Path.{◌≡◌, refl, ap, sym, subst, ◌∙◌}
use native.Mathlib.Nat.{min-eq_right}
use native.Mathlib.Numerals.{add-one}
use native.Mathlib.Omega.{arith}
use borrow.Author.Tests.{ltb-true, ltb-false, lt-ltb, le-ltb, le-leb, lt-leb}
use lib.Dec.{eqb, ltb, leb}
use lib.ListN.{drop}
use Rattle.std.specs.Prelude.{Result, Ok, Err}
use Rattle.fields.specs.Outcome.{pick}
use Rattle.hcr.specs.Words.{register, swap_of, pending_in, status_in, stall_of, waited_of}
use Rattle.hcr.specs.declared.Post.{Post}
use Rattle.hcr.proofs.Laws.{no_sooner}
use Rattle.pci.specs.Views.{dword_of, done_of, told_of}
use Rattle.pci.specs.Script.{Script, ask, stall, as_register, as_bus, as_told}
use Rattle.pci.specs.Machine.{Next, more, Right, Follows, rest}
use Rattle.pci.specs.declared.Question.TheVariants.{RegWrite}
use Rattle.pci.specs.declared.Answer.{Answer}
use Rattle.pci.specs.declared.NoReply.{NoReply}
use Rattle.pci.specs.declared.NoReply.TheVariants.{Failed, Wrong}
use Rattle.command.specs.declared.Catas.{Catas}
use Rattle.command.specs.declared.Catas.TheVariants.{Known, Unknown}
use Rattle.command.specs.declared.CmdResult.TheVariants as r
use Rattle.command.specs.declared.CmdEnd.{CmdEnd}
use Rattle.command.specs.declared.Phase.{Phase}
use Rattle.command.specs.declared.Phase.TheVariants as p
use Rattle.command.specs.declared.Cmd.{Cmd}
use Rattle.command.specs.declared.CmdStep.{CmdStep}
use Rattle.command.specs.Script.{STALLS, ending, on_read, on_write, timed_out, low, immediate, judged, verdict, poll, words, write_all, start, fenced, command}
use Rattle.command.specs.Machine.{cmd_asks, cmd_step_of, cmd_script, next, on_dword, on_done, on_told, on_either, timeout_of, written_of, word_at, go_on, end_of, first_of, status_of, done_with}
use Rattle.command.proofs.Laws.{enough, left_more, left_none}

module _ (inbox : List ℕ) where
  abbrev stepped : Cmd → Answer → List ℕ → Next Cmd CmdEnd
  stepped c a bytes = next (cmd_step_of c a)

  abbrev after : CmdStep → Script CmdEnd
  after x = rest cmd_asks stepped (cmd_script inbox) (next x)

  dword_case : (v : Result ℕ NoReply) (c : Cmd) (us : ℕ) (f : ℕ → CmdStep) (k : ℕ → Script CmdEnd) → ((x : ℕ) → after (f x) ≡ k x)
      → Right (as_register v) (λ x. after (on_dword c us f v) ≡ on_read (ending c.toggle (r.Bus us)) k x) (next (on_dword c us f v) ≡ more c)
  dword_case (Ok x) c us f k h = h _
  dword_case (Err Failed) c us f k h = refl
  dword_case (Err Wrong) c us f k h = refl

  done_case : (v : Result (Unit {0}) NoReply) (c : Cmd) (f : CmdStep) (k : Script CmdEnd) → after f ≡ k
      → Right (as_bus v) (λ x. after (on_done c f v) ≡ on_write (ending c.toggle (r.Bus 0)) k x) (next (on_done c f v) ≡ more c)
  done_case (Ok _) c f k h = h
  done_case (Err Failed) c f k h = refl
  done_case (Err Wrong) c f k h = refl

  told_case : (v : Bool) (c : Cmd) (f : CmdStep) (k : Script CmdEnd) → after f ≡ k → Right (as_told v) (λ x. after (on_told c f v) ≡ k) (next (on_told c f v) ≡ more c)
  told_case true c f k h = h
  told_case false c f k h = refl

  either_case : (v : Result ℕ NoReply) (c : Cmd) (f : CmdStep) (k : Script CmdEnd) → after f ≡ k → Right (as_register v) (λ x. after (on_either c f v) ≡ k) (next (on_either c f v) ≡ more c)
  either_case (Ok x) c f k h = h
  either_case (Err Failed) c f k h = h
  either_case (Err Wrong) c f k h = refl

  pick_after : (b : Bool) (x y : CmdStep) (m n : Script CmdEnd) → after x ≡ m → after y ≡ n → after (pick b x y) ≡ pick b m n
  pick_after true x y m n h k = h
  pick_after false x y m n h k = k

  -- the last of the six words, whatever number from 5 on it has
  module _ (j : ℕ) (h : 5 ≤ j) (x : Post) (g : Bool) (n : ℕ) (k : Catas) where
    abbrev lastly : Cmd
    lastly = record { phase = p.Writing j; post = x; toggle = g; stalls = n; catas = k }

    last_word : Follows cmd_asks stepped (cmd_script inbox) lastly (write_all k inbox g (4 * 5) (drop 5 (words x)) (fenced k inbox g x))
    unfolding cmd_script cmd_step_of cmd_asks write_all fenced
    last_word = (
      ap (λ (m : ℕ). RegWrite 0 (register (4 * m)) (swap_of (word_at x m))) (min-eq_right h),
      λ a bytes. done_case (done_of a) lastly (written_of lastly j) (fenced k inbox g x) (rw (le-ltb j 5 h)),
    )

    last-words : Follows cmd_asks stepped (cmd_script inbox) lastly (cmd_script inbox lastly)
    unfolding cmd_script
    last-words = subst (λ (m : ℕ). Follows cmd_asks stepped (cmd_script inbox) lastly (write_all k inbox g (4 * m) (drop m (words x)) (fenced k inbox g x))) (sym (min-eq_right h)) last_word

  timeout_after : (c : Cmd) (k : Catas) → after (timeout_of (record { phase = p.Poll; post = c.post; toggle = c.toggle; stalls = c.stalls; catas = k }) k) ≡ timed_out k (ending c.toggle (r.Timeout (waited_of c.stalls)))
  unfolding cmd_script
  timeout_after c (Known b off) = refl
  timeout_after c Unknown = refl

  -- waiting: by whether stalls are left
  module _ (x : Post) (g : Bool) (n : ℕ) (k : Catas) where
    abbrev polling : Cmd
    polling = record { phase = p.Poll; post = x; toggle = g; stalls = n; catas = k }

    fenced-after : after (go_on polling p.Fenced) ≡ verdict k inbox g (waited_of n)
    unfolding cmd_script
    fenced-after = refl

    wait-after : n < STALLS → after (go_on polling p.Wait) ≡ ask (stall (stall_of n)) (λ u. poll k inbox g (suc n) (STALLS - (n + 1)))
    unfolding cmd_script
    wait-after h = rw (lt-ltb n STALLS h) (ap (λ (m : ℕ). ask (stall (stall_of n)) (λ u. poll k inbox g m (STALLS - (n + 1)))) (add-one n))

    poll-more : n < STALLS → Follows cmd_asks stepped (cmd_script inbox) polling (poll k inbox g n (suc (STALLS - (n + 1))))
    unfolding cmd_step_of cmd_asks poll
    poll-more h = (
      refl,
      λ a bytes. dword_case (dword_of a) polling _ _ _ (λ v.
          let P : Bool → CmdStep = λ b. pick b (timeout_of polling k) (go_on polling p.Wait) in pick_after (pending_in v g) (P (leb 60000000 (waited_of n))) (go_on polling p.Fenced) (ask (stall (stall_of n)) (λ u. poll k inbox g (suc n) (STALLS - (n + 1)))) (verdict k inbox g (waited_of n)) (ap (λ (b : Bool). after (P b)) (lt-leb 60000000 (waited_of n) (no_sooner n h)) ∙ wait-after h) fenced-after),
    )

    poll-last : STALLS ≤ n → Follows cmd_asks stepped (cmd_script inbox) polling (poll k inbox g n 0)
    unfolding cmd_step_of cmd_asks poll
    poll-last h = (
      refl,
      λ a bytes. dword_case (dword_of a) polling _ _ _ (λ v.
          let P : Bool → CmdStep = λ b. pick b (timeout_of polling k) (go_on polling p.Wait) in pick_after (pending_in v g) (P (leb 60000000 (waited_of n))) (go_on polling p.Fenced) (timed_out k (ending g (r.Timeout (waited_of n)))) (verdict k inbox g (waited_of n)) (ap (λ (b : Bool). after (P b)) (le-leb 60000000 (waited_of n) (enough n h)) ∙ timeout_after polling k) fenced-after),
    )

    poll-by : (b : Bool) → ltb n STALLS ≡ b → Follows cmd_asks stepped (cmd_script inbox) polling (poll k inbox g n (STALLS - n))
    poll-by true e = let h = ltb-true n STALLS e in subst (λ (m : ℕ). Follows cmd_asks stepped (cmd_script inbox) polling (poll k inbox g n m)) (sym (left_more n h)) (poll-more h)
    poll-by false e = let h = ltb-false n STALLS e in subst (λ (m : ℕ). Follows cmd_asks stepped (cmd_script inbox) polling (poll k inbox g n m)) (sym (left_none n h)) (poll-last h)

  -- by phase
  at_phase : (f : Phase) (x : Post) (g : Bool) (n : ℕ) (k : Catas)
      → Follows cmd_asks stepped (cmd_script inbox) (record { phase = f; post = x; toggle = g; stalls = n; catas = k }) (cmd_script inbox (record { phase = f; post = x; toggle = g; stalls = n; catas = k }))
  unfolding cmd_script cmd_step_of cmd_asks command write_all fenced start verdict judged immediate low
  at_phase p.First x g n k = let c : Cmd = (record { phase = p.First; post = x; toggle = g; stalls = n; catas = k }) in (refl, λ a bytes. dword_case (dword_of a) c 0 (first_of c) _ (λ v. pick_after (pending_in v g) (end_of c r.Busy) (go_on c (p.Writing 0)) _ _ refl refl))
  at_phase (p.Writing zero) x g n k = (refl, λ a bytes. done_case (done_of a) _ _ _ refl)
  at_phase (p.Writing (suc zero)) x g n k = (refl, λ a bytes. done_case (done_of a) _ _ _ refl)
  at_phase (p.Writing (suc (suc zero))) x g n k = (refl, λ a bytes. done_case (done_of a) _ _ _ refl)
  at_phase (p.Writing (suc (suc (suc zero)))) x g n k = (refl, λ a bytes. done_case (done_of a) _ _ _ refl)
  at_phase (p.Writing (suc (suc (suc (suc zero))))) x g n k = (refl, λ a bytes. done_case (done_of a) _ _ _ refl)
  at_phase (p.Writing (suc (suc (suc (suc (suc i)))))) x g n k = last-words (suc (suc (suc (suc (suc i))))) (omega arith) x g n k
  at_phase p.Fence x g n k = (refl, λ a bytes. told_case (told_of a) _ _ _ refl)
  at_phase p.Go x g n k = (refl, λ a bytes. done_case (done_of a) _ _ _ refl)
  at_phase p.Poll x g n k = poll-by x g n k (ltb n STALLS) refl
  at_phase p.Wait x g n k = (refl, λ a bytes. told_case (told_of a) _ _ _ refl)
  at_phase p.Fenced x g n k = (refl, λ a bytes. told_case (told_of a) _ _ _ refl)
  at_phase p.Status x g n k = let c : Cmd = (record { phase = p.Status; post = x; toggle = g; stalls = n; catas = k }) in (refl, λ a bytes. dword_case (dword_of a) c (waited_of n) (λ v. status_of c (status_in v)) _ (λ v. pick_after (eqb (status_in v) 0) (go_on c p.High) (end_of c (r.Status (status_in v) (waited_of n))) _ _ refl refl))
  at_phase p.High x g n k = let c : Cmd = (record { phase = p.High; post = x; toggle = g; stalls = n; catas = k }) in (refl, λ a bytes. dword_case (dword_of a) c (waited_of n) (λ v. go_on c (p.Low v)) _ (λ v. refl))
  at_phase (p.Low h) x g n k = let c : Cmd = (record { phase = p.Low h; post = x; toggle = g; stalls = n; catas = k }) in (refl, λ a bytes. dword_case (dword_of a) c (waited_of n) (done_with c h) _ (λ v. refl))
  at_phase p.Catas x g n k = (refl, λ a bytes. either_case (dword_of a) _ _ _ refl)

  -- The command machine follows its script from every state.
  pub cmd_follows : (c : Cmd) → Follows cmd_asks stepped (cmd_script inbox) c (cmd_script inbox c)
  cmd_follows c = at_phase c.phase c.post c.toggle c.stalls c.catas
