-- The loop that writes fields, on lists.
use Prim.Native.Nat.{ℕ, ◌+◌, ◌*◌, ◌%◌, ◌≤◌, ◌<◌}
use mathlib.Core.Path.{◌≡◌, refl, ap, sym, subst, ◌∙◌}
use mathlib.Core.List.{List, [], ◌∷◌}
use native.Mathlib.Nat.{mul_assoc, mul-mod_left}
use lib.Dec.{lit≤}
use lib.ListN.{length, get_or, drop}
use Rattle.std.proofs.lemmas.List.{drop_more}
use Rattle.fields.specs.Fields.{put_at, written_at}
use Rattle.fields.specs.declared.Order.TheVariants.{Big}
use Rattle.fields.proofs.Laws.{length_put, written_is, put_last, put_outside}
use Rattle.init.specs.declared.Field.{Field}
use Rattle.init.specs.declared.InitHca.{InitHca}
use Rattle.init.specs.Init.{put_all, fields_of}
use Rattle.init.specs.Inner.{Within}

-- what stands past the end of a list of fields
abbrev no_field : Field
no_field = record { offset = 0; width = 0; value = 0 }

-- a turn of the loop: the next field is written
pub put_more : (s t : List ℕ) (fs : List Field) (k : ℕ) → k < length fs → Within (length s) (drop k fs)
    → t ≡ written_at Big s (get_or fs k no_field).offset (get_or fs k no_field).width (get_or fs k no_field).value
    → Within (length t) (drop (k + 1) fs) × (put_all t (drop (k + 1) fs) ≡ put_all s (drop k fs))
unfolding put_all
put_more s t fs k h w e =
    let f = get_or fs k no_field in
    let more = drop_more fs k no_field h in
    let v : (f.offset + f.width ≤ length s) × Within (length s) (drop (k + 1) fs) = subst (Within (length s)) more w in
    let q = e ∙ written_is Big s f.offset f.width f.value v.0 in
    let n : length s ≡ length t = sym (ap length q ∙ length_put Big s f.offset f.width f.value) in (
      subst (λ (m : ℕ). Within m (drop (k + 1) fs)) n v.1,
      ap (λ (x : List ℕ). put_all x (drop (k + 1) fs)) q ∙ sym (ap (put_all s) more),
    )

-- the fields of INIT_HCA lie within a mailbox
pub fields_within : (h : InitHca) → Within 4096 (fields_of h)
fields_within h =
    (lit≤ tt, (lit≤ tt, (lit≤ tt, (lit≤ tt, (lit≤ tt, (lit≤ tt, (lit≤ tt, (lit≤ tt, (lit≤ tt, (lit≤ tt, (lit≤ tt, (lit≤ tt, (lit≤ tt, (lit≤ tt, (lit≤ tt, (lit≤ tt, (lit≤ tt, (lit≤ tt, (lit≤ tt, (lit≤ tt, (lit≤ tt, (lit≤ tt, (lit≤ tt, (lit≤ tt, (lit≤ tt, (lit≤ tt, (lit≤ tt, (lit≤ tt, tt))))))))))))))))))))))))))))

-- "Each base is at least page-aligned": where the log is written, the base has left 0.
pub log_over_zero : (s : List ℕ) (off base k : ℕ) → off + 8 ≤ length s → base ≡ k * 4096 → get_or (put_at Big s off 8 base) (off + 7) 0 ≡ 0
log_over_zero s off base k h e = put_last s off 7 base h ∙ ap (λ (n : ℕ). n % 256) (e ∙ sym (mul_assoc k 16 256)) ∙ mul-mod_left (k * 16) 256

-- a byte that no field covers stays: "unset bytes are 0"
abbrev Outside : ℕ → List Field → Type 0
Outside k [] = Unit {0}
Outside k (f ∷ fs) = (f.offset ≤ k → k < f.offset + f.width → ⊥) × Outside k fs

pub unset : (s : List ℕ) (fs : List Field) (k : ℕ) → Outside k fs → get_or (put_all s fs) k 0 ≡ get_or s k 0
unfolding put_all
unset s [] k o = refl
unset s (f ∷ fs) k o = unset (put_at Big s f.offset f.width f.value) fs k o.1 ∙ put_outside Big s f.offset f.width f.value k o.0
