use mathlib.Core.Path.{ap, ◌∙◌}
use Rattle.fields.specs.Outcome.{value_or}
use Rattle.init.specs.Init.{init_of}
use Rattle.layout.specs.Layout.{no_layout}
use Rattle.layout.specs.Counts.{profile_of}
use Rattle.layout.specs.declared.Layout.{Layout}
use Rattle.layout.proofs.Held.{held}
use Rattle.reply.specs.declared.DevCap.{DevCap}
use borrow.Author.Rules.{rules}
use Rattle.fw_begin.proofs.init_fields.Goals as goal

pub cap_at-cap-requires : goal.cap_at-cap-requires
cap_at-cap-requires c = search rules

pub profile-requires : goal.profile-requires
profile-requires c = search rules

pub init_hca-requires : goal.init_hca-requires
init_hca-requires c = search rules

pub returns : goal.returns
returns c =
    λ y.
    c.init_hca.ensures ∙ ap (λ (l : Layout). init_of c.cap_at-cap.result l.rows) (held c.profile.result c.unwrap_or-layout.ensures c.none.ensures c.profile.ensures)
    ∙ ap (λ (k : DevCap). init_of k (value_or no_layout (profile_of k)).rows) c.cap_at-cap.ensures
