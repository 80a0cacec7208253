use Rattle.std.proofs.Common.{arith}
use Rattle.plain_costs.proofs.plain.station_cost.Goals as goal

pub overflow_add-result : goal.overflow_add-result
overflow_add-result c = omega (arith, c.walk_cost-walk.ensures.greatest.parted 0, c.least_told.ensures.bound)
