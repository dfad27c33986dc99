-- The layout for a capability reply as words.
use Rattle.std.specs.Prelude.{ℕ, List, [], ◌∷◌, ◌++◌}
use Rattle.fields.specs.Outcome.{Outcome, value, refused, value_or, number_of}
use Rattle.reply.specs.Capability.{no_caps}
use Rattle.reply.specs.declared.DevCap.{DevCap}
use Rattle.layout.specs.Layout.{no_layout}
use Rattle.layout.specs.Counts.{profile_of, base_sqpn, first_free_mtt}
use Rattle.layout.specs.declared.Table.{Table}
use Rattle.layout.specs.declared.Range.{Range}
use Rattle.layout.specs.declared.Layout.{Layout}
use Rattle.answers.specs.Words.{beside_of}
use Rattle.answers.specs.declared.replies.Code.{Code}
use Rattle.answers.specs.declared.tables.Judged.{Judged}

-- the layout of an accepted reply, or the refusal of the reply or of the layout
abbrev pub layout_for : Outcome DevCap → Outcome Layout
layout_for (value c) = profile_of c
layout_for (refused k vs) = refused k vs

abbrev pub judged_of : Code → Layout → Judged
judged_of k l = record { code = k; layout = l }

-- a table: its index, entry, count, bytes and base
abbrev pub row_words : Table → List ℕ
row_words t = t.index ∷ t.entry ∷ t.count ∷ t.bytes ∷ t.base ∷ []

unfoldable pub rows_words : List Table → List ℕ
rows_words [] = []
rows_words (t ∷ ts) = row_words t ++ rows_words ts

-- a mapped range: its card address and its bytes
abbrev pub range_words : Range → List ℕ
range_words r = r.virt ∷ r.bytes ∷ []

unfoldable pub ranges_words : List Range → List ℕ
ranges_words [] = []
ranges_words (r ∷ rs) = range_words r ++ ranges_words rs

-- the refusal, the total, the first special QP and the first free MTT entry; then the tables, the ranges and the comparisons
abbrev pub head_words : Outcome DevCap → List ℕ
head_words o =
    number_of (layout_for o) ∷ beside_of (layout_for o) ∷ (value_or no_layout (layout_for o)).total ∷ base_sqpn (value_or no_caps o) ∷ first_free_mtt (value_or no_caps o) ∷ []

abbrev pub layout_words : Outcome DevCap → List ℕ
layout_words o =
    head_words o
    ++ (rows_words (value_or no_layout (layout_for o)).rows
    ++ (ranges_words (value_or no_layout (layout_for o)).ranges
    ++ ((value_or no_layout (layout_for o)).comparisons ∷ [])))
