use Rattle.std.proofs.Common.{◌<◌, length, arith}
use Rattle.slot_columns.proofs.GroupLaws.{added_more}
use Rattle.walk_costs.specs.Leasts.{IsLeastBy}
use Rattle.walk_costs.proofs.LeastLaws.{least_more}
use Rattle.walk_costs.proofs.least.push_costs.Goals as goal

pub loop-k-preserved : goal.loop-k-preserved
loop-k-preserved c =
    let walks = c.args.walks.now in
    let kinds = c.args.kinds.now in
    let splits = c.args.splits.now in
    let rows = c.args.rows.now in
    let k = c.loop-k.k in
    let within : c.loop-k.k < length c.args.kinds.now = omega arith in
    let places = c.requires.splits k within in
    record {
      begins = c.change_last.ensures.costs;
      added = added_more 0 (IsLeastBy walks kinds splits rows c.args.p c.args.count c.args.reached) c.args.costs.now.items c.loop-k.costs.items _ c.least_of-least.result k
          c.loop-k.invariant.added c.in_ok-push.ensures.items
          (least_more walks kinds splits rows c.args.p c.args.count c.args.reached k c.change_last.new.begins c.least_of-least.result _ _ _ _ _ c.change_last.ensures.costs
          c.change_last.ensures.last within places.0 places.1 c.least_of-least.ensures);
    }
