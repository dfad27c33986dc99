-- THE BOOKS as C linkage shows them. What is held, and how much, is read off the slots: a buffer that is being made or freed is held too, from the answer that handed it over
-- to the one that gave it back.
use Rattle.std.specs.Prelude.{ℕ, zero, suc, ◌+◌, ◌*◌, List, [], ◌∷◌, ◌++◌, ltb, length}
use Rattle.fields.specs.Outcome.{pick}
use Rattle.words.specs.Words.{at, bit_of, put_words}
use Rattle.words_books.specs.Coding.{ledger_words}
use Rattle.words_session.specs.Image.{core_of, ledger_for}
use Rattle.session.specs.Session.{slot_at, is_held, AUX, FA, INBOX, OUTBOX}
use Rattle.session.specs.declared.Slot.{Slot}
use Rattle.session.specs.declared.Session.{Session}

-- HOW MANY ranges and lent buffers there can be; where their words begin, behind the head, and all the words
abbrev pub RANGES : ℕ
RANGES = 14

abbrev pub LENT : ℕ
LENT = 64

abbrev pub HEAD : ℕ
HEAD = 32

abbrev pub ranges_at : ℕ
ranges_at = HEAD

abbrev pub lent_at : ℕ
lent_at = ranges_at + RANGES * 4

abbrev pub BOOKS : ℕ
BOOKS = lent_at + LENT * 3

-- A BUFFER: a word of one that is held; its device address, and 1, which no page has, where it is held and not mapped
abbrev pub shown : Slot → ℕ → ℕ
shown x n = pick (is_held x) n 0

abbrev pub spot_of : Slot → ℕ
spot_of x = shown x (pick x.mapped x.dev 1)

-- whether it is held, then handle, device address and pages; of a range its card address, handle, device address and pages; of a lent buffer the last three
abbrev pub area_words : Slot → List ℕ
area_words x = bit_of (is_held x) ∷ shown x x.handle ∷ spot_of x ∷ shown x x.pages ∷ []

abbrev pub range_words : Slot → List ℕ
range_words x = x.virt ∷ x.handle ∷ spot_of x ∷ x.pages ∷ []

abbrev pub lent_words : Slot → List ℕ
lent_words x = x.handle ∷ spot_of x ∷ x.pages ∷ []

-- THOSE THAT ARE HELD, in their order: of the m slots from number i on; the ranges; the lent buffers
abbrev pub in_row : Slot → List Slot
in_row x = pick (is_held x) (x ∷ []) []

unfoldable pub held_from : (m i : ℕ) → List Slot → List Slot
held_from zero i l = []
held_from (suc m) i l = in_row (slot_at l i) ++ held_from m (suc i) l

-- how many there are with one slot more
abbrev pub count_of : ℕ → Slot → ℕ
count_of n x = pick (is_held x) (n + 1) n

abbrev pub ranges_of : List Slot → List Slot
ranges_of l = held_from RANGES LENT l

abbrev pub lent_of : List Slot → List Slot
lent_of l = held_from LENT 0 l

-- so many rows of words, the first of them for number i; behind the last that is held they are 0
unfoldable pub rows_words : (Slot → List ℕ) → (n i : ℕ) → List Slot → List ℕ
rows_words f zero i l = []
rows_words f (suc n) i l = f (slot_at l i) ++ rows_words f n (suc i) l

-- THE WORDS. Of the ledger all but its two counts, which are those of what is held; behind the command register the inbox, the outbox, the firmware area and the auxiliary area
abbrev pub areas_words : List Slot → List ℕ
areas_words l = area_words (slot_at l INBOX) ++ (area_words (slot_at l OUTBOX) ++ (area_words (slot_at l FA) ++ area_words (slot_at l AUX)))

abbrev pub head_row : (ranges lent : ℕ) → (ledger areas : List ℕ) → List ℕ
head_row r l w a =
    r ∷ l ∷ at w 2 ∷ at w 3 ∷ at w 4 ∷ at w 5 ∷ at w 6 ∷ at w 7 ∷ at w 8 ∷ at w 9 ∷ at w 10
    ∷ at a 0 ∷ at a 1 ∷ at a 2 ∷ at a 3 ∷ at a 4 ∷ at a 5 ∷ at a 6 ∷ at a 7 ∷ at a 8 ∷ at a 9 ∷ at a 10 ∷ at a 11 ∷ at a 12 ∷ at a 13 ∷ at a 14 ∷ at a 15
    ∷ at w 11 ∷ at w 12 ∷ at w 13 ∷ at w 14 ∷ at w 15 ∷ []

abbrev pub head_words : Session → List ℕ
head_words s =
    head_row (length (ranges_of s.books.lists.slots)) (length (lent_of s.books.lists.slots)) (ledger_words (ledger_for (core_of s)))
    (areas_words s.books.lists.slots)

abbrev pub books_words : Session → List ℕ
books_words s =
    head_words s ++ (rows_words range_words RANGES 0 (ranges_of s.books.lists.slots) ++ rows_words lent_words LENT 0 (lent_of s.books.lists.slots))

unfoldable pub books_in : List ℕ → Session → List ℕ
books_in w s = pick (ltb (length w) (BOOKS * 8)) w (put_words w 0 (books_words s))
