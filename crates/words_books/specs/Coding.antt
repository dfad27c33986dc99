-- What of the books is no slot, and a slot, as words.
use Rattle.std.specs.Prelude.{ℕ, ◌%◌, List, [], ◌∷◌, eqb}
use Rattle.fields.specs.Outcome.{pick}
use Rattle.words.specs.Words.{at, bit_of}
use Rattle.words_task.specs.Coding.{catas_words, catas_of}
use Rattle.pci.specs.declared.Refusal.{Refusal}
use Rattle.pci.specs.declared.Refusal.TheVariants as rv
use Rattle.session.specs.declared.Failure.{Failure}
use Rattle.session.specs.declared.Failure.TheVariants as fv
use Rattle.session.specs.declared.Closing.{Closing}
use Rattle.session.specs.declared.Closing.TheVariants as cv
use Rattle.session.specs.declared.Slot.{Slot}
use Rattle.session.specs.declared.Wire.{Wire}
use Rattle.words_books.specs.declared.Ledger.{Ledger}

-- a refusal: its number less 1, then its values
abbrev pub refusal_words : Refusal → List ℕ
refusal_words rv.Attributes = 0 ∷ 0 ∷ 0 ∷ []
refusal_words rv.Owner = 1 ∷ 0 ∷ 0 ∷ []
refusal_words rv.Reset = 2 ∷ 0 ∷ 0 ∷ []
refusal_words rv.Bar = 3 ∷ 0 ∷ 0 ∷ []
refusal_words rv.Memory = 4 ∷ 0 ∷ 0 ∷ []
refusal_words (rv.Status x y) = 5 ∷ x ∷ y ∷ []
refusal_words (rv.Timeout x) = 6 ∷ x ∷ 0 ∷ []
refusal_words rv.Busy = 7 ∷ 0 ∷ 0 ∷ []
refusal_words (rv.Bus x) = 8 ∷ x ∷ 0 ∷ []
refusal_words rv.NotPrimary = 9 ∷ 0 ∷ 0 ∷ []
refusal_words (rv.Revision x) = 10 ∷ x ∷ 0 ∷ []
refusal_words (rv.MinPage x) = 11 ∷ x ∷ 0 ∷ []
refusal_words (rv.Ports x) = 12 ∷ x ∷ 0 ∷ []
refusal_words (rv.Uar x) = 13 ∷ x ∷ 0 ∷ []
refusal_words (rv.UarArea x) = 14 ∷ x ∷ 0 ∷ []
refusal_words (rv.Entry x) = 15 ∷ x ∷ 0 ∷ []
refusal_words (rv.Total x) = 16 ∷ x ∷ 0 ∷ []
refusal_words rv.Address = 17 ∷ 0 ∷ 0 ∷ []
refusal_words rv.Full = 18 ∷ 0 ∷ 0 ∷ []
refusal_words rv.Wrong = 19 ∷ 0 ∷ 0 ∷ []
refusal_words rv.Short = 20 ∷ 0 ∷ 0 ∷ []
refusal_words rv.Opcode = 21 ∷ 0 ∷ 0 ∷ []
refusal_words rv.Undo = 22 ∷ 0 ∷ 0 ∷ []
refusal_words rv.List = 26 ∷ 0 ∷ 0 ∷ []

abbrev pub refusal_of : (tag a b : ℕ) → Refusal
refusal_of tag a b =
    pick (eqb tag 1) rv.Owner (
    pick (eqb tag 2) rv.Reset (
    pick (eqb tag 3) rv.Bar (
    pick (eqb tag 4) rv.Memory (
    pick (eqb tag 5) (rv.Status (a % 256) b) (
    pick (eqb tag 6) (rv.Timeout a) (
    pick (eqb tag 7) rv.Busy (
    pick (eqb tag 8) (rv.Bus a) (
    pick (eqb tag 9) rv.NotPrimary (
    pick (eqb tag 10) (rv.Revision (a % 65536)) (
    pick (eqb tag 11) (rv.MinPage (a % 256)) (
    pick (eqb tag 12) (rv.Ports (a % 256)) (
    pick (eqb tag 13) (rv.Uar (a % 256)) (
    pick (eqb tag 14) (rv.UarArea a) (
    pick (eqb tag 15) (rv.Entry a) (
    pick (eqb tag 16) (rv.Total a) (
    pick (eqb tag 17) rv.Address (
    pick (eqb tag 18) rv.Full (
    pick (eqb tag 19) rv.Wrong (
    pick (eqb tag 20) rv.Short (
    pick (eqb tag 21) rv.Opcode (
    pick (eqb tag 22) rv.Undo (
    pick (eqb tag 26) rv.List (
    rv.Attributes)))))))))))))))))))))))

-- why the opening failed
abbrev pub failure_words : Failure → List ℕ
failure_words fv.Nothing = 0 ∷ 0 ∷ 0 ∷ 0 ∷ []
failure_words (fv.By x) = 1 ∷ at (refusal_words x) 0 ∷ at (refusal_words x) 1 ∷ at (refusal_words x) 2 ∷ []

abbrev pub failure_of : (tag a b d : ℕ) → Failure
failure_of tag a b d =
    pick (eqb tag 1) (fv.By (refusal_of a b d)) (
    fv.Nothing)

-- how a closing went
abbrev pub closing_words : Closing → List ℕ
closing_words cv.Clean = 0 ∷ []
closing_words cv.Reset = 1 ∷ []
closing_words cv.Kept = 2 ∷ []

abbrev pub closing_of : (tag : ℕ) → Closing
closing_of tag =
    pick (eqb tag 1) cv.Reset (
    pick (eqb tag 2) cv.Kept (
    cv.Clean))

-- a slot
abbrev pub slot_words : Slot → List ℕ
slot_words v = v.runs ∷ v.virt ∷ v.handle ∷ v.dev ∷ v.pages ∷ bit_of v.mapped ∷ []

abbrev pub slot_of : List ℕ → Slot
slot_of w = record {
  runs = at w 0;
  virt = at w 1;
  handle = at w 2;
  dev = at w 3;
  pages = at w 4;
  mapped = eqb (at w 5) 1;
}

-- how the command register stands
abbrev pub wire_words : Wire → List ℕ
wire_words v = bit_of v.toggle ∷ bit_of v.running ∷ bit_of v.broken ∷ bit_of v.silent ∷ at (catas_words v.catas) 0 ∷ at (catas_words v.catas) 1 ∷ at (catas_words v.catas) 2 ∷ []

abbrev pub wire_of : (a b d e f g h : ℕ) → Wire
wire_of a b d e f g h = record {
  toggle = eqb a 1;
  running = eqb b 1;
  broken = eqb d 1;
  silent = eqb e 1;
  catas = catas_of f g h;
}

-- the words of a ledger from those of its parts
abbrev pub ledger_row : Ledger → (wire failure closing : List ℕ) → List ℕ
ledger_row v wire failure closing = v.ranges ∷ v.lends ∷ bit_of v.started ∷ v.original ∷ at wire 0 ∷ at wire 1 ∷ at wire 2 ∷ at wire 3 ∷ at wire 4 ∷ at wire 5 ∷ at wire 6 ∷ at failure 0 ∷ at failure 1 ∷ at failure 2 ∷ at failure 3 ∷ at closing 0 ∷ []

-- the ledger: the two counts first
abbrev pub ledger_words : Ledger → List ℕ
ledger_words v = ledger_row v (wire_words v.wire) (failure_words v.failure) (closing_words v.closing)

abbrev pub ledger_of : List ℕ → Ledger
ledger_of w = record {
  ranges = at w 0;
  lends = at w 1;
  started = eqb (at w 2) 1;
  original = at w 3;
  wire = wire_of (at w 4) (at w 5) (at w 6) (at w 7) (at w 8) (at w 9) (at w 10);
  failure = failure_of (at w 11) (at w 12) (at w 13) (at w 14);
  closing = closing_of (at w 15);
}
