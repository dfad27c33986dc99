use Rattle.std.proofs.Common.{◌≡◌, [], drop, sym, ap, ◌∙◌, arith}
use Rattle.std.proofs.Math.ListN.{drop_of_length-le}
use Rattle.init.specs.Init.{put_all}
use Rattle.init.proofs.Laws.{put_more}
use Rattle.init.proofs.put_all.Goals as goal

pub loop-field-preserved : goal.loop-field-preserved
loop-field-preserved c = let l = c.loop-field in
    let r = put_more l.inbox c.set_field.new.s c.args.f.now l.field-index c.loop-field-test.true l.invariant.within c.set_field.ensures.s_after in
    record { within = r.0; whole = r.1 ∙ l.invariant.whole }

pub returns : goal.returns
unfolding put_all
returns c = let l = c.loop-field in
    let d : drop l.field-index c.args.f.now ≡ [] = drop_of_length-le c.args.f.now {i = l.field-index} (omega arith) in
    sym (ap (put_all l.inbox) d) ∙ l.invariant.whole
