use Rattle.std.proofs.Common.{arith}
use Rattle.walk_costs.proofs.RunLaws.{in_century}
use Rattle.walk_costs.proofs.walks.StationWalks.make.Goals as goal

pub prove-unreachable-requires : goal.prove-unreachable-requires
prove-unreachable-requires c = omega (arith, in_century c.parts-parts.result.now c.end.ensures.table, c.end.ensures.value, c.if-prove.true)
