use Rattle.walk_costs.proofs.LeastLaws.{one_more_split}
use Rattle.walk_costs.proofs.thirds.thirds_of.Goals as goal

pub loop-k-preserved : goal.loop-k-preserved
loop-k-preserved c =
    record {
      thirds = one_more_split c.args.kinds.now c.loop-k.all.items c.split_of.new.all.items c.loop-k.splits.items c.push.new.self.items c.in_ok-split.split c.loop-k.k
          c.loop-k.invariant.thirds c.in_ok-split.ensures c.in_ok-push.ensures.items;
    }
