-- The counts of the full profile, document 01: "b is the power of two reached from reserved QPs + 257; QPC, ALTC, AUXC 2b; RDMARC 32b; SRQC
-- reserved + 1; CQC reserved + 4, at least 64; EQC num_sys_eqs, or if 0 the card's maximum, at most 128; dMPT reserved + 1, at least 64; cMPT 2^26;
-- MTT first free + 256; MCG 256. First free MTT: the reserved bytes rounded up to 64, divided by the entry, raised to a power of two."
use Rattle.std.specs.Prelude.{ℕ, ◌+◌, ◌*◌, ◌/◌, ◌^◌, min, max, List, [], ◌∷◌, eqb, get_or}
use Rattle.fields.specs.Outcome.{Outcome, pick}
use Rattle.reply.specs.declared.DevCap.{DevCap}
use Rattle.layout.specs.declared.Layout.{Layout}
use Rattle.layout.specs.Layout.{pow2_of, layout_of}

-- b, the number of the first special QP
abbrev pub base_sqpn : DevCap → ℕ
base_sqpn cap = pow2_of (cap.rsvd_qps + 257)

-- n bytes rounded up to a cache line
abbrev pub lines : ℕ → ℕ
lines n = (n + 63) / 64 * 64

abbrev pub first_free : (reserved entry : ℕ) → ℕ
first_free reserved entry = pow2_of (lines (reserved * entry) / entry)

abbrev pub first_free_mtt : DevCap → ℕ
first_free_mtt cap = first_free cap.rsvd_mtts (get_or cap.entry 9 0)

abbrev pub eqs_of : DevCap → ℕ
eqs_of cap = pick (eqb cap.num_sys_eqs 0) (min cap.max_eqs 128) cap.num_sys_eqs

-- by table index: QPC, RDMARC, ALTC, AUXC, SRQC, CQC, EQC, dMPT, cMPT, MTT, MCG
abbrev pub counts_of : DevCap → List ℕ
counts_of cap =
    (2 * base_sqpn cap)
    ∷ (32 * base_sqpn cap)
    ∷ (2 * base_sqpn cap)
    ∷ (2 * base_sqpn cap)
    ∷ (cap.rsvd_srqs + 1)
    ∷ max (cap.rsvd_cqs + 4) 64
    ∷ eqs_of cap
    ∷ max (cap.rsvd_mpts + 1) 64
    ∷ (2 ^ 26)
    ∷ (first_free_mtt cap + 256)
    ∷ 256
    ∷ []

-- the layout of a card with these capabilities
abbrev pub profile_of : DevCap → Outcome Layout
profile_of cap = layout_of (counts_of cap) cap.entry cap.max_icm
