-- WHAT STANDS BEHIND THE HEAD in the bytes of a session, read and written in place: one part, and no other, at a time.
use Rattle.std.specs.Prelude.{ℕ, zero, suc, ◌+◌, ◌*◌, Bool, true, false, List, eqb, ltb, length, Option}
use Rattle.fields.specs.Outcome.{pick}
use Rattle.reset.specs.Steps as rs
use Rattle.uar.specs.Steps as us
use Rattle.words.specs.Places.{PORT, SLOT, SLOTS, CAP, RESET, FIND, cap_at, port1_at, port2_at, reset_at, find_at, slots_at, state_bytes}
use Rattle.words.specs.Words.{word_at, words_in, put_words, rows_in}
use Rattle.words_info.specs.Coding.{cap_of, cap_words, port_of, port_words}
use Rattle.words_beside.specs.Coding.{reset_of, reset_words, find_of, find_words}
use Rattle.words_books.specs.Coding.{slot_of, slot_words}
use Rattle.work.specs.declared.Task.{Task}
use Rattle.work.specs.declared.Task.TheVariants as t
use Rattle.session.specs.declared.Stage.{Stage}
use Rattle.session.specs.Core.{Behind, behind, none_behind, cap_in, port_in, is_reset, is_find}
use Rattle.session.specs.declared.Slot.{Slot}
use Rattle.session.specs.declared.Note.{Note}
use Rattle.session.specs.declared.Note.TheVariants as n

-- the words of all parts; where there are not so many, what stands behind a fresh head
abbrev pub behind_from : List ℕ → Behind
behind_from xs =
    behind (reset_of (words_in xs reset_at RESET)) (find_of (words_in xs find_at FIND)) (cap_of (words_in xs cap_at CAP))
    (port_of (words_in xs port1_at PORT)) (port_of (words_in xs port2_at PORT)) (rows_in slot_of SLOT xs slots_at SLOTS)

abbrev pub behind_in : List ℕ → Behind
behind_in xs = pick (ltb (length xs) state_bytes) none_behind (behind_from xs)

-- ONE PART WRITTEN; nothing, where the bytes are too few
abbrev pub put_part : (at : ℕ) → (part : List ℕ) → List ℕ → List ℕ
put_part k ws xs = pick (ltb (length xs) state_bytes) xs (put_words xs k ws)

abbrev pub slot_put : ℕ → Slot → List ℕ → List ℕ
slot_put i v xs = pick (ltb i SLOTS) (put_part (slots_at + i * SLOT) (slot_words v) xs) xs

-- WHAT A REPLY LEAVES, and a plan's task that begins
abbrev pub noted_in : Note → Option ℕ → (outbox : List ℕ) → List ℕ → List ℕ
noted_in n.Nothing z o xs = xs
noted_in n.Cap z o xs = put_part cap_at (cap_words (cap_in o z)) xs
noted_in (n.Port i) z o xs = put_part (pick (eqb i 1) port1_at port2_at) (port_words (port_in o i)) xs

abbrev pub begun_in : Stage → Task → List ℕ → List ℕ
begun_in s t.Rest xs = xs
begun_in s (t.Attr y) xs = xs
begun_in s (t.Claim y) xs = xs
begun_in s t.Reset xs = pick (is_reset s) (put_part reset_at (reset_words rs.started) xs) xs
begun_in s t.Bar xs = pick (is_find s) (put_part find_at (find_words us.started) xs) xs
begun_in s (t.Make y) xs = xs
begun_in s (t.Free y) xs = xs
begun_in s t.Look xs = xs
begun_in s (t.Cmd y) xs = xs
begun_in s (t.Part y) xs = xs

-- THE SLOTS STAND: the word `mapped` of each is 0 or 1; the other five are full words
unfoldable pub flags_stand : List ℕ → (k n : ℕ) → Bool
flags_stand xs k zero = true
flags_stand xs k (suc n) = pick (ltb (word_at xs (k + 5)) 2) (flags_stand xs (k + SLOT) n) false

abbrev pub slots_stand : List ℕ → Bool
slots_stand xs = pick (ltb (length xs) state_bytes) false (flags_stand xs slots_at SLOTS)
