use mathlib.Core.Path.{refl, ap, sym, subst, ◌∙◌}
use Rattle.session.specs.Core.{full}
use Rattle.session.specs.declared.Fill.{Fill}
use Rattle.fw_plan.specs.Calls.{filled, filled_in, filled_out}
use borrow.Author.Rules.{rules}
use Rattle.fw_begin.proofs.fill.Goals as goal

pub enum_told-1 : goal.enum_told-1
enum_told-1 c = search rules

pub enum_told-in-Outbox : goal.enum_told-in-Outbox
enum_told-in-Outbox c = search rules

pub zero-requires : goal.zero-requires
zero-requires c = search rules

pub enum_known-fill : goal.enum_known-fill
enum_known-fill c = search rules

pub fill_list-requires : goal.fill_list-requires
fill_list-requires c = search rules

pub enum_told-in-ModStat : goal.enum_told-in-ModStat
enum_told-in-ModStat c = search rules

pub mod_stat_cfg-requires : goal.mod_stat_cfg-requires
mod_stat_cfg-requires c = search rules

pub enum_told-in-InitHca : goal.enum_told-in-InitHca
enum_told-in-InitHca c = search rules

pub fill_init-requires : goal.fill_init-requires
fill_init-requires c = search rules

pub returns-in-Nothing : goal.returns-in-Nothing
returns-in-Nothing c =
    let p = c.args in
    record { with_slots = λ b e. sym (ap (λ (z : Fill). filled z (full p.s b) p.inbox.now) c.in-Nothing.is); with_caps = λ b e. sym (ap (λ (z : Fill). filled_in z (full p.s b) p.inbox.now) c.in-Nothing.is); outbox_after = sym (ap (λ (z : Fill). filled_out z p.outbox.now) c.in-Nothing.is) }

pub shape_of-outbox : goal.shape_of-outbox
shape_of-outbox c = search rules

pub returns-in-Outbox : goal.returns-in-Outbox
returns-in-Outbox c =
    let p = c.args in
    record { with_slots = λ b e. sym (ap (λ (z : Fill). filled z (full p.s b) p.inbox.now) c.in-Outbox.is); with_caps = λ b e. sym (ap (λ (z : Fill). filled_in z (full p.s b) p.inbox.now) c.in-Outbox.is); outbox_after = c.zero.ensures ∙ sym (ap (λ (z : Fill). filled_out z p.outbox.now) c.in-Outbox.is) }

pub shape_of-inbox-in-List : goal.shape_of-inbox-in-List
shape_of-inbox-in-List c = search rules

pub returns-in-List : goal.returns-in-List
returns-in-List c =
    let p = c.args in
    record { with_slots = λ b e. c.fill_list.ensures.with_slots b e ∙ sym (ap (λ (z : Fill). filled z (full p.s b) p.inbox.now) c.in-List.is); with_caps = λ b e. c.fill_list.ensures.inbox_after ∙ sym (ap (λ (z : Fill). filled_in z (full p.s b) p.inbox.now) c.in-List.is); outbox_after = sym (ap (λ (z : Fill). filled_out z p.outbox.now) c.in-List.is) }

pub shape_of-inbox-in-ModStat : goal.shape_of-inbox-in-ModStat
shape_of-inbox-in-ModStat c = search rules

pub returns-in-ModStat : goal.returns-in-ModStat
returns-in-ModStat c =
    let p = c.args in
    record { with_slots = λ b e. sym (ap (λ (z : Fill). filled z (full p.s b) p.inbox.now) c.in-ModStat.is); with_caps = λ b e. c.mod_stat_cfg.ensures.inbox_after ∙ sym (ap (λ (z : Fill). filled_in z (full p.s b) p.inbox.now) c.in-ModStat.is); outbox_after = sym (ap (λ (z : Fill). filled_out z p.outbox.now) c.in-ModStat.is) }

pub shape_of-inbox-in-InitHca : goal.shape_of-inbox-in-InitHca
shape_of-inbox-in-InitHca c = search rules

pub returns-in-InitHca : goal.returns-in-InitHca
returns-in-InitHca c =
    let p = c.args in
    record { with_slots = λ b e. sym (ap (λ (z : Fill). filled z (full p.s b) p.inbox.now) c.in-InitHca.is); with_caps = λ b e. c.fill_init.ensures p.s b e ∙ sym (ap (λ (z : Fill). filled_in z (full p.s b) p.inbox.now) c.in-InitHca.is); outbox_after = sym (ap (λ (z : Fill). filled_out z p.outbox.now) c.in-InitHca.is) }
