-- An answer to a command that goes on, on the bytes of the session. Word 0 is 8 where the task is a command; words 1 and 2 have its phase, word 8 its toggle, word 9 its
-- stalls, and words 3 to 7 what it posts (crates/words_task/specs/Coding.antt). Words 1, 2, 8 and 9 are all that changes before a command ends.
use Rattle.std.specs.Prelude.{ℕ, ◌+◌, ◌*◌, ◌%◌, Bool, true, false, ◌&&◌, not, List, [], ◌∷◌, ◌≡◌, eqb, ltb, leb, length, replicate}
use Rattle.fields.specs.Outcome.{Outcome, value, refused, pick}
use Rattle.hcr.specs.Words.{register, go_word, pending_in, status_in, stall_of, swap_of}
use Rattle.hcr.specs.declared.Post.{Post}
use Rattle.command.specs.Script.{STALLS}
use Rattle.command.specs.Machine.{word_no, word_at}
use Rattle.words.specs.Places.{state_bytes}
use Rattle.words.specs.Words.{at, bit_of, within, words_in, put_words}
use Rattle.words_calls.specs.Calls.{turn_in, heard_of}
use Rattle.pci.specs.declared.Answer.{Answer}
use Rattle.pci.specs.declared.Answer.TheVariants as a
use Rattle.pci.specs.declared.Question.{Question}
use Rattle.pci.specs.declared.Question.TheVariants as q
use Rattle.in_place.specs.declared.Next.{Next}
use Rattle.in_place.specs.declared.Next.TheVariants as n

-- THE NEXT QUESTION of a command whose first ten words are w, after a register was read (its own value v)
abbrev pub after_first : (toggle : Bool) → ℕ → Next
after_first g v = pick (pending_in v g) n.Other (n.Write 0)

-- "Timeout when still pending with 60,000,000 µs or more waited": so many stalls have waited as long
abbrev pub after_poll : (toggle : Bool) → (stalls : ℕ) → ℕ → Next
after_poll g m v = pick (pending_in v g) (pick (ltb m STALLS) (n.Stall (stall_of m)) n.Other) n.Fenced

abbrev pub after_status : ℕ → Next
after_status v = pick (eqb (status_in v) 0) n.High n.Other

abbrev pub after_read : List ℕ → ℕ → Next
after_read w v =
    pick (eqb (at w 1) 0) (after_first (eqb (at w 8) 1) v) (
    pick (eqb (at w 1) 4) (after_poll (eqb (at w 8) 1) (at w 9) v) (
    pick (eqb (at w 1) 7) (after_status v) (
    pick (eqb (at w 1) 8) (n.Low v) (
    n.Other))))

-- after a write, a fence or a stall
abbrev pub after_write : (i : ℕ) → Next
after_write i = pick (ltb i 5) (n.Write (i + 1)) n.Fence

abbrev pub after_stall : (stalls : ℕ) → Next
after_stall m = pick (ltb m STALLS) (n.Read (m + 1)) n.Other

abbrev pub after_done : List ℕ → Next
after_done w =
    pick (eqb (at w 1) 1) (after_write (at w 2)) (
    pick (eqb (at w 1) 2) n.Go (
    pick (eqb (at w 1) 3) (n.Posted (bit_of (not (eqb (at w 8) 1)))) (
    pick (eqb (at w 1) 5) (after_stall (at w 9)) (
    pick (eqb (at w 1) 6) n.Status (
    n.Other)))))

-- by what was answered: a call that failed ends the command, and any other answer is of the wrong kind
abbrev pub after : List ℕ → Answer → Next
after w (a.Dword v) = after_read w (swap_of v)
after w a.Done = after_done w
after w (a.Word v) = n.Other
after w (a.Qword v) = n.Other
after w a.Failed = n.Other
after w (a.Handle v) = n.Other
after w (a.Mapped v x) = n.Other
after w a.List = n.Other

abbrev pub next_of : List ℕ → Answer → Next
next_of w x = pick (eqb (at w 0) 8) (after w x) n.Other

-- the same of an answer as it was told, by its kind and its first value, whatever the second; one that is none leads nowhere
abbrev pub after_heard : List ℕ → Outcome Answer → Next
after_heard w (value x) = after w x
after_heard w (refused m vs) = n.Other

abbrev pub next_heard : List ℕ → Outcome Answer → Next
next_heard w h = pick (eqb (at w 0) 8) (after_heard w h) n.Other

abbrev pub Leads : Next → List ℕ → (kind v : ℕ) → Type 0
Leads z w k v = (x : ℕ) → z ≡ next_heard w (heard_of k v x)

-- the first ten words, where there are so many
abbrev pub first_words : List ℕ → List ℕ
first_words s = pick (within s 0 10) (words_in s 0 10) (replicate 10 0)

-- all that is lent is long enough
abbrev pub ready_for : (state inbox outbox : List ℕ) → ℕ → (out : List ℕ) → Bool
ready_for s i u m w = not (ltb (length s) state_bytes) && (eqb (length i) 4096 && (eqb (length u) 4096 && (not (ltb 256 m) && leb 40 (length w))))

-- what comes next, where all is lent that is asked for
abbrev pub onward_of : (state : List ℕ) → Answer → (inbox outbox : List ℕ) → ℕ → (out : List ℕ) → Next
onward_of s x i u m w = pick (ready_for s i u m w) (next_of (first_words s) x) n.Other

-- the command goes on
abbrev pub goes_on : Next → Bool
goes_on (n.Write i) = true
goes_on n.Fence = true
goes_on n.Go = true
goes_on (n.Posted g) = true
goes_on (n.Stall us) = true
goes_on (n.Read m) = true
goes_on n.Fenced = true
goes_on n.Status = true
goes_on n.High = true
goes_on (n.Low v) = true
goes_on n.Other = false

-- WHAT IS WRITTEN to the session: the phase in two words, and with it the toggle and the stalls once the command is posted, the stalls after each of them
abbrev pub stored : List ℕ → (k : ℕ) → List ℕ → List ℕ
stored s k ws = pick (within s k (length ws)) (put_words s k ws) s

abbrev pub state_after : Next → List ℕ → List ℕ
state_after (n.Write i) s = stored s 1 (1 ∷ i ∷ [])
state_after n.Fence s = stored s 1 (2 ∷ 0 ∷ [])
state_after n.Go s = stored s 1 (3 ∷ 0 ∷ [])
state_after (n.Posted g) s = stored (stored s 1 (4 ∷ 0 ∷ [])) 8 (g ∷ 0 ∷ [])
state_after (n.Stall us) s = stored s 1 (5 ∷ 0 ∷ [])
state_after (n.Read m) s = stored (stored s 1 (4 ∷ 0 ∷ [])) 9 (m ∷ [])
state_after n.Fenced s = stored s 1 (6 ∷ 0 ∷ [])
state_after n.Status s = stored s 1 (7 ∷ 0 ∷ [])
state_after n.High s = stored s 1 (8 ∷ 0 ∷ [])
state_after (n.Low v) s = stored s 1 (9 ∷ v ∷ [])
state_after n.Other s = s

-- WHAT IS ASKED: words 3 to 8 of the session are what is posted, and its toggle
abbrev pub post_words : List ℕ → List ℕ
post_words s = pick (within s 3 6) (words_in s 3 6) (replicate 6 0)

abbrev pub post_of : List ℕ → Post
post_of p = record { op = at p 0 % 65536; op_mod = at p 1 % 256; in_mod = at p 2 % 4294967296; in_param = at p 3; out_param = at p 4 }

abbrev pub ask_write : List ℕ → ℕ → Question
ask_write p i = q.RegWrite 0 (register (4 * word_no i)) (swap_of (word_at (post_of p) (word_no i)))

abbrev pub ask_go : List ℕ → Question
ask_go p = q.RegWrite 0 (register 0x18) (swap_of (go_word (eqb (at p 5) 1) (at p 1 % 256) (at p 0 % 65536)))

abbrev pub asked : Next → (state : List ℕ) → Question
asked (n.Write i) s = ask_write (post_words s) i
asked n.Fence s = q.Fence
asked n.Go s = ask_go (post_words s)
asked (n.Posted g) s = q.RegRead 0 (register 0x18)
asked (n.Stall us) s = q.Stall us
asked (n.Read m) s = q.RegRead 0 (register 0x18)
asked n.Fenced s = q.Fence
asked n.Status s = q.RegRead 0 (register 0x18)
asked n.High s = q.RegRead 0 (register 0x0c)
asked (n.Low v) s = q.RegRead 0 (register 0x10)
asked n.Other s = q.Finished

abbrev pub out_after : Next → (state out : List ℕ) → (undo : ℕ) → List ℕ
out_after x s w m = pick (goes_on x) (turn_in w (asked x s) m) w
