use Rattle.std.proofs.Common.{length, ap, arith}
use Rattle.symbol_cost.specs.Grid.{Grid}
use Rattle.minute_parts.specs.Parts.{PartTable}
use Rattle.walk_costs.proofs.RunLaws.{in_century}
use Rattle.block_costs.proofs.SumLaws.{most_fits}
use Rattle.block_costs.proofs.TotalLaws.{total}
use Rattle.block_costs.proofs.walks.Walks.cost_minute_by_minute.Goals as goal

pub added_from-requires-clause-minute : goal.added_from-requires-clause-minute
added_from-requires-clause-minute c =
    omega (arith, in_century c.parts.result.now c.end.ensures.table, ap (λ (v : PartTable). v.end) c.parts.ensures, c.args.self.now.regular.early, c.args.self.now.some)

pub returns-clause-cost : goal.returns-clause-cost
returns-clause-cost c =
    (total c.args.self.now.station.now c.columns-columns.ensures.small c.args.self.now.announced c.args.self.now.second c.args.self.now.lo c.args.self.now.in_a_minute
    (λ t from to. c.args.self.now.regular.short t from (omega (arith, to, c.args.self.now.some))) c.cost_by_minutes-sets.result c.added_from.result c.cost_by_minutes-sets.ensures.cost
    c.added_from.ensures.one_day c.added_from.ensures.two_days).cost

pub returns-clause-bound : goal.returns-clause-bound
returns-clause-bound c =
    (total c.args.self.now.station.now c.columns-columns.ensures.small c.args.self.now.announced c.args.self.now.second c.args.self.now.lo c.args.self.now.in_a_minute
    (λ t from to. c.args.self.now.regular.short t from (omega (arith, to, c.args.self.now.some))) c.cost_by_minutes-sets.result c.added_from.result c.cost_by_minutes-sets.ensures.cost
    c.added_from.ensures.one_day c.added_from.ensures.two_days).bound

pub overflow_add-result : goal.overflow_add-result
overflow_add-result c =
    let grid = c.args.self.now.station.now.grid in
    let rows = ap (λ (g : Grid). length g.rows) c.columns-columns.ensures.columns in
    let receivers = ap (λ (g : Grid). g.receivers) c.columns-columns.ensures.columns in
    let fits = most_fits grid (omega (arith, rows, c.seconds.ensures.count, c.seconds.ensures.bound))
    (omega (arith, receivers, c.receivers.ensures.count, c.receivers.ensures.bound)) in
    let is = total c.args.self.now.station.now c.columns-columns.ensures.small c.args.self.now.announced c.args.self.now.second c.args.self.now.lo c.args.self.now.in_a_minute
    (λ t from to. c.args.self.now.regular.short t from (omega (arith, to, c.args.self.now.some))) c.cost_by_minutes-sets.result c.added_from.result c.cost_by_minutes-sets.ensures.cost
    c.added_from.ensures.one_day c.added_from.ensures.two_days in
    let bound = is.bound in
    omega (arith, bound, fits)
