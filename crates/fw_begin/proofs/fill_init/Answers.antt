use mathlib.Core.Path.{refl, ap, sym, subst, ◌∙◌}
use Rattle.fields.specs.Outcome.{value_or}
use Rattle.init.specs.Init.{filled_by, fields_of, init_of}
use Rattle.init.specs.declared.InitHca.{InitHca}
use Rattle.layout.specs.Layout.{no_layout}
use Rattle.layout.specs.Counts.{profile_of}
use Rattle.reply.specs.declared.DevCap.{DevCap}
use borrow.Author.Rules.{rules}
use Rattle.fw_begin.proofs.fill_init.Goals as goal

pub init_fields-requires : goal.init_fields-requires
init_fields-requires c = search rules

pub fill-requires : goal.fill-requires
fill-requires c = search rules

pub shape_of-inbox : goal.shape_of-inbox
shape_of-inbox c = search rules

pub returns : goal.returns
returns c =
    λ y b e.
    let p = c.args in
    c.fill.ensures.inbox_after
    ∙ ap (λ (x : InitHca). filled_by p.inbox.now (fields_of x)) (c.init_fields.ensures y ∙ ap (λ (k : DevCap). init_of k (value_or no_layout (profile_of k)).rows) (sym e))
