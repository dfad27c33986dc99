-- A command can be taken and end well, with any immediate of 32 bits.
use Prim.Native.Nat.{ℕ, zero, suc, ◌+◌, ◌*◌, ◌/◌, ◌%◌, ◌^◌, ◌<◌}
use native.Mathlib.Omega.{arith}
use mathlib.Core.Bool.{Bool, true, false, not, false≢true}
use mathlib.Core.List.{List, []}
use mathlib.Core.Logic.{◌⊎◌, inl, inr}
use mathlib.Core.Option.{some, none, some-injective, none-ne-some}
use mathlib.Core.Path.{◌≡◌, refl, sym, ◌∙◌, ap, subst}
use lib.Dec.{eqb}
use borrow.Author.Tests.{eq-eqb}
use Rattle.fields.specs.Outcome.{pick}
use Rattle.hcr.specs.Words.{digit, pending_in, status_in, go_word, waited_of}
use Rattle.hcr.specs.declared.Post.{Post}
use Rattle.pci.specs.Script.{good}
use Rattle.pci.specs.declared.Answer.TheVariants as an
use Rattle.command.specs.Script.{STALLS, low, immediate, judged, verdict, poll, write_all, start, fenced as fencing, command}
use Rattle.command.specs.declared.Catas.{Catas}
use Rattle.command.specs.declared.CmdResult.TheVariants as r
use Rattle.command.specs.declared.CmdEnd.{CmdEnd}
use Rattle.card.specs.Card.{Card, Command, finish, Settles, same, ends, tbit_of, status_of, written, begin, store, fenced, Shows, Host, World, mail_at}
use Rattle.card.proofs.Command.{go_of_lem, tbit_of_lem}
use Rattle.card_run.specs.Can.{Can}
use Rattle.card_run.proofs.Steps.{no_bytes, says_read, can_true, can_false}

-- nothing is pending, and the last command taken since the reset, if there was one, had the other T and ended well
pub record Idle (t : Bool) (k : Card) : Type 0 where
  pub pending : k.pending ≡ none
  pub status : k.status ≡ 0
  pub last : (k.last ≡ none) ⊎ (k.last ≡ some (not t))

pub record Well (imm : ℕ) (t : Bool) (l : Host) (w : World) (e : CmdEnd) : Type 1 where
  pub us : ℕ
  pub result : e.result ≡ r.Done (0 * 2 ^ 32 + imm) us
  pub toggle : e.toggle ≡ not t
  pub host : w.host ≡ l
  pub idle : Idle (not t) w.card

-- the status dword with this T, and all else 0
abbrev word : Bool → ℕ
word t = digit t * 2 ^ 21

word_small : (t : Bool) → word t < 2 ^ 32
word_small true = omega arith
word_small false = omega arith

word_t : (t : Bool) → tbit_of (word t) ≡ t
word_t true = refl
word_t false = refl

word_status : (t : Bool) → status_of (word t) ≡ 0
word_status true = refl
word_status false = refl

word_done : (t : Bool) → pending_in (word t) (not t) ≡ false
word_done true = refl
word_done false = refl

not_not : (t : Bool) → not (not t) ≡ t
not_not true = refl
not_not false = refl

-- a card with nothing pending shows the T of its last command
shows : (k : Card) (t : Bool) → k.pending ≡ none → k.status ≡ 0 → (k.last ≡ none) ⊎ (k.last ≡ some t) → Shows k (word t)
shows k t p s l = record {
  while_pending = λ c e. absurd (none-ne-some c (sym p ∙ e));
  when_done = λ u e f. (word_t t ∙ other u f l, word_status t ∙ sym s);
}
  where
    other : (u : Bool) → k.last ≡ some u → (k.last ≡ none) ⊎ (k.last ≡ some t) → t ≡ u
    other u f (inl e) = absurd (none-ne-some u (sym e ∙ f))
    other u f (inr e) = some-injective t u (sym e ∙ f)

module _ (catas : Catas) (i : List ℕ) (t : Bool) (o : Post) (l : Host) (imm : ℕ) (small : imm < 2 ^ 32) where
  abbrev Q : World → CmdEnd → Type 1
  Q = Well imm t l

  -- over, with status 0
  record Over (k : Card) : Type 0 where
    pub pending : k.pending ≡ none
    pub status : k.status ≡ 0
    pub last : k.last ≡ some t

  can_immediate : (us : ℕ) (w : World) → w.host ≡ l → Over w.card → Can w (immediate catas i (not t) us) Q
  unfolding immediate low
  can_immediate us w e k = (
    good 0,
    w,
    says_read 0 0x8068c 0 (omega arith),
    ((same, λ a b. absurd (false≢true (eq-eqb 0x8068c 0x80698 b))), refl),
    (
      good imm,
      w,
      says_read 0 0x80690 imm small,
      ((same, λ a b. absurd (false≢true (eq-eqb 0x80690 0x80698 b))), refl),
      record {
        us = us;
        result = refl;
        toggle = refl;
        host = e;
        idle = record { pending = k.pending; status = k.status; last = inr (k.last ∙ ap some (sym (not_not t))) };
      },
    ),
  )

  can_judged : (us : ℕ) (w : World) → w.host ≡ l → Over w.card → Can w (judged catas i (not t) us) Q
  unfolding judged
  can_judged us w e k = (
    good (word t),
    w,
    says_read 0 0x80698 (word t) (word_small t),
    ((same, λ a b. shows w.card t k.pending k.status (inr k.last)), refl),
    can_true w Q (eqb (status_in (word t)) 0) _ _ (eq-eqb (status_in (word t)) 0 (word_status t)) (can_immediate us w e k),
  )

  can_verdict : (us : ℕ) (w : World) → w.host ≡ l → Over w.card → Can w (verdict catas i (not t) us) Q
  unfolding verdict
  can_verdict us w e k = (
    tt,
    record { card = fenced w.card (mail_at w.host i); host = w.host },
    (an.Done, [], refl, tt, no_bytes),
    ((w.card, same, refl), refl),
    can_judged us _ e (record { pending = k.pending; status = k.status; last = k.last }),
  )

  -- the command ends before the first look
  module _ (p : Command) (w : World) (e : w.host ≡ l) (pend : w.card.pending ≡ some p) (last : w.card.last ≡ some t) where
    abbrev after : World
    after = record { card = finish w.card p 0; host = w.host }

    over : Over after.card
    over = record { pending = refl; status = refl; last = last }

    can-poll : (left n : ℕ) → Can w (poll catas i (not t) n left) Q
    unfolding poll
    can-poll zero n = (
      good (word t),
      after,
      says_read 0 0x80698 (word t) (word_small t),
      ((ends p 0 pend, λ a b. shows after.card t refl refl (inr last)), refl),
      can_false after Q (pending_in (word t) (not t)) _ _ (word_done t) (can_verdict (waited_of n) after e over),
    )
    can-poll (suc left) n = (
      good (word t),
      after,
      says_read 0 0x80698 (word t) (word_small t),
      ((ends p 0 pend, λ a b. shows after.card t refl refl (inr last)), refl),
      can_false after Q (pending_in (word t) (not t)) _ _ (word_done t) (can_verdict (waited_of n) after e over),
    )

  abbrev go : ℕ
  go = go_word t o.op_mod o.op

  -- the write at 0x18 is taken
  can_start : (w : World) → o.op < 0x1000 → o.op_mod < 0x100 → w.host ≡ l → Can w (start catas i t o) Q
  unfolding start
  can_start w a b e = (
    good tt,
    record { card = begin w.card (written w.card go); host = w.host },
    (an.Done, [], refl, tt, no_bytes),
    ((w.card, same, subst (λ (x : Bool). Settles (pick x (begin w.card (written w.card go)) w.card) (begin w.card (written w.card go))) (sym (go_of_lem t o.op_mod o.op a b)) same), refl),
    can-poll (written w.card go) _ e refl (ap some (tbit_of_lem t o.op_mod o.op a b)) STALLS 0,
  )

  pub can_command : (w : World) → o.op < 0x1000 → o.op_mod < 0x100 → w.host ≡ l → Idle t w.card → Can w (command catas i t o) Q
  unfolding command write_all fencing
  can_command w a b e k = (
    good (word (not t)),
    w,
    says_read 0 0x80698 (word (not t)) (word_small (not t)),
    ((same, λ c d. shows w.card (not t) k.pending k.status k.last), refl),
    can_false w Q (pending_in (word (not t)) t) _ _ (ap (pending_in (word (not t))) (sym (not_not t)) ∙ word_done (not t)) (
      good tt,
      w1,
      (an.Done, [], refl, tt, no_bytes),
      ((w.card, same, same), refl),
      (
        good tt,
        w2,
        (an.Done, [], refl, tt, no_bytes),
        ((w1.card, same, same), refl),
        (
          good tt,
          w3,
          (an.Done, [], refl, tt, no_bytes),
          ((w2.card, same, same), refl),
          (
            good tt,
            w4,
            (an.Done, [], refl, tt, no_bytes),
            ((w3.card, same, same), refl),
            (
              good tt,
              w5,
              (an.Done, [], refl, tt, no_bytes),
              ((w4.card, same, same), refl),
              (
                good tt,
                w6,
                (an.Done, [], refl, tt, no_bytes),
                ((w5.card, same, same), refl),
                (
                  tt,
                  record { card = fenced w6.card (mail_at w.host i); host = w.host },
                  (an.Done, [], refl, tt, no_bytes),
                  ((w6.card, same, refl), refl),
                  can_start _ a b e,
                ),
              ),
            ),
          ),
        ),
      ),
    ),
  )
    where
      w1 : World
      w1 = record { card = store w.card 0x80680 (o.in_param / 2 ^ 32); host = w.host }

      w2 : World
      w2 = record { card = store w1.card 0x80684 (o.in_param % 2 ^ 32); host = w.host }

      w3 : World
      w3 = record { card = store w2.card 0x80688 o.in_mod; host = w.host }

      w4 : World
      w4 = record { card = store w3.card 0x8068c (o.out_param / 2 ^ 32); host = w.host }

      w5 : World
      w5 = record { card = store w4.card 0x80690 (o.out_param % 2 ^ 32); host = w.host }

      w6 : World
      w6 = record { card = store w5.card 0x80694 0xffff0000; host = w.host }
