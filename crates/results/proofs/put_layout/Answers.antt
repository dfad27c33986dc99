use borrow.Author.Rules.{rules}
use Prim.Native.Nat.{ℕ}
use mathlib.Core.Path.{refl, ap, ◌∙◌}
use mathlib.Core.List.{List, [], ◌∷◌}
use native.Mathlib.Omega.{arith}
use lib.ListN.{length}
use Rattle.words.specs.Words.{put_words, flat}
use Rattle.words.proofs.Laws.{length_words}
use Rattle.words_session.proofs.Laws.{stored}
use Rattle.layout.specs.declared.Layout.{Layout}
use Rattle.layout.proofs.Held.{held}
use Rattle.layout.specs.Counts.{base_sqpn, first_free_mtt}
use Rattle.reply.specs.declared.DevCap.{DevCap}
use Rattle.session.specs.declared.Info.{Info}
use Rattle.behind.specs.Behind.{behind_in}
use Rattle.opening_plan.specs.Values.{layout_in}
use Rattle.results.specs.Results.{put_layout, ports_of, table_words}
use Rattle.results.proofs.Laws.{alike}
use Rattle.results.proofs.put_layout.Goals as goal

pub returns : goal.returns
unfolding put_layout
returns c =
    let s = c.args.out.now in
    let h = c.args.s in
    let b = behind_in c.args.m.now in
    let infoOf : DevCap → Info = λ x. record { uar = h.uar; cap = x; func = h.func; port1 = b.port1; port2 = b.port2; rev3 = h.rev3 } in
    let n = infoOf c.cap_at-cap.result in
    let room = c.requires in
    let l = held c.profile.result c.unwrap_or-layout.ensures c.none.ensures c.profile.ensures in
    let words : List ℕ = ports_of n ∷ (layout_in n).total ∷ base_sqpn n.cap ∷ first_free_mtt n.cap ∷ [] in
    let first =
    stored s 74 4 c.store.ensures
    (alike c.ports.ensures (ap (λ (x : Layout). x.total) l) c.base_sqpn.ensures.0 c.first_free_mtt.ensures.0) refl (omega arith) in
    let second =
    c.put_tables.ensures ∙ ap (λ (x : List ℕ). put_words x 78 (flat table_words c.unwrap_or-layout.result.rows)) first
    ∙ ap (λ (x : Layout). put_words (put_words s 74 words) 78 (flat table_words x.rows)) l in
    let size = ap length second ∙ length_words (put_words s 74 words) 78 (flat table_words (layout_in n).rows) ∙ length_words s 74 words in
    stored _ 133 1 c.store-2.ensures (ap (λ (x : Layout). x.comparisons ∷ []) l) refl (omega (arith, size))
    ∙ ap (λ (x : List ℕ). put_words x 133 ((layout_in n).comparisons ∷ [])) second ∙ ap (λ (x : DevCap). put_layout s (infoOf x)) c.cap_at-cap.ensures
