use Rattle.std.specs.Prelude.{Option}
use Prim.Native.Nat.{ℕ}
use mathlib.Core.Path.{◌≡◌, ap, ◌∙◌}
use mathlib.Core.List.{List, [], ◌∷◌}
use borrow.Author.Tests.{le-leb}
use Rattle.std.specs.Result.{result_unwrap_or}
use Rattle.fields.specs.Outcome.{Outcome, value_or}
use Rattle.reply.specs.Capability.{capability, capability_of, no_caps}
use Rattle.reply.specs.declared.DevCap.{DevCap}
use Rattle.layout.specs.Layout.{no_layout}
use Rattle.layout.specs.Counts.{base_sqpn, first_free_mtt}
use Rattle.answers.specs.Words.{put_words}
use Rattle.answers.specs.Replies.{size_from, code_of}
use Rattle.answers.specs.Tables.{layout_for, judged_of, rows_words, ranges_words, layout_words}
use Rattle.answers.specs.declared.tables.Judged.{Judged}
use Rattle.answers.proofs.Laws.{passed}
use Rattle.answers.proofs.Rows.{whole, put_whole}
use Rattle.leaves.proofs.tables.leaf_layout.Goals as goal

pub returns-clause-out_after : goal.returns-clause-out_after
returns-clause-out_after c =
    let p = c.args in
    let s = p.reply.now in
    let j = c.judge-j.result in
    let l = j.layout in
    let a = c.base_sqpn.result in
    let b = c.first_free_mtt.result in
    let o : Outcome DevCap = capability_of s (size_from p.known p.bar) in
    let said : capability c.dev_cap-c.result ≡ o = c.dev_cap-c.ensures.said ∙ ap (capability_of s) c.size_from.ensures in
    let held : c.unwrap_or-cap.result ≡ value_or no_caps o = c.unwrap_or-cap.ensures ∙ ap (result_unwrap_or c.dev_cap-c.result) c.none.ensures ∙ c.dev_cap-c.ensures.held ∙ ap (λ (x : Option ℕ). value_or no_caps (capability_of s x)) c.size_from.ensures in
    let judged : j ≡ judged_of (code_of (layout_for o)) (value_or no_layout (layout_for o)) =
    c.judge-j.ensures ∙ ap (λ (x : Outcome DevCap). judged_of (code_of (layout_for x)) (value_or no_layout (layout_for x))) said in
    let wrote = c.put-2.ensures
    ∙ ap (λ (x : List ℕ). put_words x 88 (l.comparisons ∷ [])) c.put_ranges.ensures.out_after
    ∙ ap (λ (x : List ℕ). put_words (put_words x 60 (ranges_words l.ranges)) 88 (l.comparisons ∷ [])) c.put_rows.ensures.out_after
    ∙ ap (λ (x : List ℕ). put_words (put_words (put_words x 5 (rows_words l.rows)) 60 (ranges_words l.ranges)) 88 (l.comparisons ∷ [])) c.put.ensures
    ∙ put_whole p.out.now j a b c.put_rows.ensures.rows_len c.put_ranges.ensures.ranges_len in
    let words : whole j a b ≡ layout_words o =
    ap (λ (x : Judged). whole x a b) judged
    ∙ ap (λ (x : ℕ). whole (judged_of (code_of (layout_for o)) (value_or no_layout (layout_for o))) x b) (c.base_sqpn.ensures.0 ∙ ap base_sqpn held)
    ∙ ap (λ (x : ℕ). whole (judged_of (code_of (layout_for o)) (value_or no_layout (layout_for o))) (base_sqpn (value_or no_caps o)) x) (c.first_free_mtt.ensures.0 ∙ ap first_free_mtt held) in
    passed p.out.now (le-leb _ _ c.if-out.false) (wrote ∙ ap (put_words p.out.now 0) words)
