-- How large the fields of a capability reply can be.
use Rattle.std.specs.Prelude.{Option}
use Prim.Native.Nat.{ℕ, zero, suc, ◌^◌, ◌≤◌, ◌<◌}
use mathlib.Core.Bool.{not}
use mathlib.Core.Path.{◌≡◌, refl, sym}
use mathlib.Core.List.{List, [], ◌∷◌}
use native.Mathlib.Nat.{mod-lt, div-lt_iff_lt-mul, le_of_suc-le-suc}
use lib.Dec.{lit<, ltb}
use lib.ListN.{length, get_or, set, length-set, replicate}
use lib.Pow.{pow_mono}
use Rattle.fields.specs.Fields.{be}
use Rattle.fields.specs.Outcome.{value, refused, pick}
use Rattle.fields.specs.declared.Order.TheVariants.{Big}
use Rattle.fields.proofs.Laws.{Bytes, number_lt}
use Rattle.fields.proofs.Outcomes.{past, same_value}
use Rattle.reply.specs.declared.Place.{Place}
use Rattle.reply.specs.declared.DevCap.{DevCap}
use Rattle.reply.specs.Capability.{read_into, dev_cap_of, capability_of, low, high, Bounds, min_page, ports_in, one_or_two, uar_field, uar_area, above_size}

-- each entry is of 16 bits
abbrev Below : List ℕ → Type 0
Below xs = (i : ℕ) → get_or xs i 0 < 2 ^ 16

below_set : (xs : List ℕ) (k v : ℕ) → v < 2 ^ 16 → Below xs → Below (set xs k v)
below_set [] k v h b i = b i
below_set (x ∷ xs) zero v h b zero = h
below_set (x ∷ xs) zero v h b (suc i) = b (suc i)
below_set (x ∷ xs) (suc k) v h b zero = b 0
below_set (x ∷ xs) (suc k) v h b (suc i) = below_set xs k v h (λ j. b (suc j)) i

below_read : (s : List ℕ) (ps : List Place) (out : List ℕ) → Bytes s → Below out → Below (read_into s ps out)
unfolding read_into
below_read s [] out b h = h
below_read s (p ∷ ps) out b h = below_read s ps (set out p.table (be s p.offset 2)) b (below_set out p.table (be s p.offset 2) (number_lt Big s p.offset 2 b) h)

length_read : (s : List ℕ) (ps : List Place) (out : List ℕ) → length (read_into s ps out) ≡ length out
unfolding read_into
length_read s [] out = refl
length_read s (p ∷ ps) out = simp length-set at (length_read s ps (set out p.table (be s p.offset 2)))

none_below : (n : ℕ) → Below (replicate n 0)
none_below zero i = lit< tt
none_below (suc n) zero = lit< tt
none_below (suc n) (suc i) = none_below n i

low_le : (s : List ℕ) (off : ℕ) → 2 ^ low s off ≤ 2 ^ 15
low_le s off = pow_mono {i = low s off} {j = 15} (le_of_suc-le-suc (mod-lt (be s off 1) {m = 16} (lit< tt)))

high_le : (s : List ℕ) (off : ℕ) → Bytes s → 2 ^ high s off ≤ 2 ^ 15
high_le s off b = pow_mono {i = high s off} {j = 15} (le_of_suc-le-suc ((div-lt_iff_lt-mul {k = 16} {x = be s off 1} {y = 16} (lit< tt)).1 (number_lt Big s off 1 b)))

pub decoded_bounds : (s : List ℕ) → Bytes s → Bounds (dev_cap_of s)
decoded_bounds s b =
    record {
      qps = low_le s 0x12;
      srqs = high_le s 0x14 b;
      cqs = low_le s 0x1a;
      mtts = high_le s 0x20 b;
      mpts = low_le s 0x22;
      sys = mod-lt (be s 0x26 2) {m = 4096} (lit< tt);
      eleven = length_read s _ _;
      entries = below_read s _ _ b (below_set (replicate 11 0) 10 (2 ^ 10) (lit< tt) (none_below 11));
    }

-- an accepted reply gives its fields
pub accepted_is : (s : List ℕ) (bar : Option ℕ) (c : DevCap) → capability_of s bar ≡ value c → c ≡ dev_cap_of s
accepted_is s bar c e =
    let d = value (dev_cap_of s) in
    let area = pick (above_size bar (uar_area s)) (refused 15 (uar_area s ∷ [])) d in
    let uar = pick (ltb 43 (uar_field s)) (refused 14 (uar_field s ∷ [])) area in
    let ports = pick (not (one_or_two (ports_in s))) (refused 13 (ports_in s ∷ [])) uar in
    let page = pick (ltb 12 (min_page s)) (refused 12 (min_page s ∷ [])) ports in
    let e₁ = (past (ltb (length s) 168) 21 [] page c e).1 in
    let e₂ = (past (ltb 12 (min_page s)) 12 (min_page s ∷ []) ports c e₁).1 in
    let e₃ = (past (not (one_or_two (ports_in s))) 13 (ports_in s ∷ []) uar c e₂).1 in
    let e₄ = (past (ltb 43 (uar_field s)) 14 (uar_field s ∷ []) area c e₃).1 in
    sym (same_value (past (above_size bar (uar_area s)) 15 (uar_area s ∷ []) d c e₄).1)
