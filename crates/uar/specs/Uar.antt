-- The UAR BAR is found, as a script. The Rust's `find_bar`: the six BAR dwords, then the choice.
-- Document 01: "4 BAR dword unreadable, or register above 5"; document 02, Req 05: 27 for a resource
-- list that is damaged or cut.
use Rattle.std.specs.Prelude.{ℕ, zero, suc, ◌+◌, ◌-◌, ◌*◌, List, [], ◌∷◌, set, replicate, eqb, Result, Ok, Err}
use Rattle.std.specs.Prelude as std
use Rattle.std.proofs.Math.Option.{Option, some, none}
use Rattle.fields.specs.Outcome.{Outcome, value, refused, pick}
use Rattle.bars.specs.Bars.{base_of, count_of}
use Rattle.bars.specs.Resource.{Answer, resource_at}
use Rattle.bars.specs.Choose.{has_base, others_from}
use Rattle.bars.specs.Steps.{pick_of, settled_of}
use Rattle.bars.specs.declared.BarRange.{BarRange}
use Rattle.bars.specs.declared.How.TheVariants as h
use Rattle.bars.specs.declared.Pick.{Pick}
use Rattle.bars.specs.declared.Candidate.{Candidate}
use Rattle.pci.specs.Script.{Script, ret, ask, Bus, good, failed, config_read32, resource}
use Rattle.uar.specs.declared.NotFound.{NotFound}
use Rattle.uar.specs.declared.NotFound.TheVariants as f

-- how a search ends
abbrev pub Found : Type 0
Found = Result Pick NotFound

abbrev pub found : Found → Outcome Pick
found (Ok p) = value p
found (Err f.Refused) = refused 4 []
found (Err f.BadList) = refused 27 []

-- what is said about an index: a range, or no answer
abbrev pub range_from : Option (ℕ × ℕ) → std.Option BarRange
range_from (some r) = std.Some (record { base = r.0; length = r.1 })
range_from none = std.None

-- 27 "stands where 4 does": a bad list ends the search, whichever index was asked; "A failed resource
-- call .. is no answer."
abbrev pub on_list : (std.Option BarRange → Script Found) → Answer → Script Found
on_list k (value r) = k (range_from r)
on_list k (refused n vs) = ret (Err f.BadList)

abbrev pub on_told : (std.Option BarRange → Script Found) → Bus (List ℕ) → Script Found
on_told k (good bytes) = on_list k (resource_at bytes)
on_told k failed = k std.None

abbrev pub candidate : ℕ → std.Option BarRange → Candidate
candidate i a = record { index = i; answer = a }

-- an index that is no candidate wins if its base matches
abbrev pub other : (base index : ℕ) → (next : Script Found) → Script Found
other base i next =
    ask (resource i) (on_told (λ a. pick (has_base base a) (ret (Ok (pick_of (candidate i a) h.Scan))) next))

-- "then the other indices 0 to 5 in rising order"; where none has the base, the candidates settle it
unfoldable pub scan : (base : ℕ) → (settled : Pick) → List ℕ → Script Found
scan base p [] = ret (Ok p)
scan base p (i ∷ is) = other base i (scan base p is)

-- "if the base is not 0, a matching base wins, .. else the single answer, else the first, else the first candidate with no size"
abbrev pub judging : (base : ℕ) → (first second : Candidate) → Script Found
judging base x y =
    pick (eqb base 0) (ret (Ok (settled_of x y)))
    (pick (has_base base x.answer) (ret (Ok (pick_of x h.BaseMatches)))
    (pick (has_base base y.answer) (ret (Ok (pick_of y h.BaseMatches)))
    (scan base (settled_of x y) (others_from x.index y.index 0))))

abbrev pub second : (base : ℕ) → (first : Candidate) → (index : ℕ) → Script Found
second base x j = ask (resource j) (on_told (λ a. judging base x (candidate j a)))

-- "`choose` asks both (once if equal)"; of the second candidate nothing is known yet
abbrev pub choosing : (base first : ℕ) → Candidate → Script Found
choosing base i y =
    ask (resource i) (on_told (λ a.
    pick (eqb i y.index) (judging base (candidate i a) y) (second base (candidate i a) y.index)))

-- the number of the dword after which n are left
abbrev pub dword_at : ℕ → ℕ
dword_at n = 5 - n

abbrev pub or_refused : (ℕ → Script Found) → Bus ℕ → Script Found
or_refused k (good v) = k v
or_refused k failed = ret (Err f.Refused)

-- Public document: PCI Local Bus, the six base address registers. It was not at hand; their places
-- are those of Linux's pci_regs.h.
-- n dwords are left to read, 0x10 to 0x24 in order; the first failure is 4. Then the choice for register 2: "the register number, and the count of BARs before it"
unfoldable pub reading : (n : ℕ) → List ℕ → Script Found
reading zero dwords = choosing (base_of dwords 2) 2 (candidate (count_of dwords 2) std.None)
reading (suc n) dwords = ask (config_read32 (0x10 + dword_at n * 4)) (or_refused (λ v. reading n (set dwords (dword_at n) v)))

-- FINDING THE UAR BAR
abbrev pub finding : Script Found
finding = reading 6 (replicate 6 0)
