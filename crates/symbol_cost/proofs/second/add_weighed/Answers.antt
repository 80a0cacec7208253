use Rattle.std.proofs.Common.{◌≡◌, ◌<◌, ◌*◌, length, get_or, ◌∙◌, arith}
use Rattle.std.proofs.Math.ListN.{length-set}
use Rattle.symbol_cost.specs.declared.limits.TheConstants.{RECEIVER_COST}
use Rattle.symbol_cost.proofs.RowLaws.{grown_more}
use Rattle.symbol_cost.proofs.second.add_weighed.Goals as goal

pub loop-x-preserved : goal.loop-x-preserved
loop-x-preserved c =
    let row = c.loop-x.row in
    let long : length row ≡ 5 = c.loop-x.invariant.long in
    let within : c.loop-x.x < length row = omega arith in
    record {
      long = length-set row c.loop-x.x _ ∙ long;
      grown = grown_more c.args.row.now row c.loop-x.x RECEIVER_COST c.weighed.result (λ y. c.args.weight * get_or c.args.costs.now y 0)
          within c.weighed.ensures.product c.weighed.ensures.bound c.loop-x.invariant.grown;
    }
