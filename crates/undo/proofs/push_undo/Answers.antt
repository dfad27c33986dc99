use Rattle.std.proofs.Common.{◌<◌, length, rules, ap, sym}
use Rattle.undo.specs.List.{stored}
use Rattle.undo.proofs.Laws.{stored_below}
use Rattle.undo.proofs.push_undo.Goals as goal

pub bounds-list-count : goal.bounds-list-count
bounds-list-count c = stored_below (length c.args.list.now) c.args.count c.args.u.op (ap stored (sym c.in_ok-n.ensures))

pub offset_bounds-list-count : goal.offset_bounds-list-count
offset_bounds-list-count c =
    let below : c.args.count < length c.args.list.now =
    stored_below (length c.args.list.now) c.args.count c.args.u.op (ap stored (sym c.in_ok-n.ensures)) in
    search rules
