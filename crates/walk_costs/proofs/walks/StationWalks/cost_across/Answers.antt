use Rattle.std.proofs.Common.{ℕ, ◌+◌, ◌-◌, ◌<◌, ◌≤◌, ◌%◌, length, get_or, ap, ◌∙◌, subst, arith}
use Rattle.symbol_cost.specs.Grid.{cost_at}
use Rattle.minute_parts.specs.Parts.{IsPartTable, PartTable, part_where}
use Rattle.minute_parts.specs.Runs.{run_at}
use Rattle.slot_columns.specs.Parts.{minute_cost, most_cost}
use Rattle.walk_costs.specs.Dates.{given_up}
use Rattle.walk_costs.specs.Walks.{ArePriced, PricedParts}
use Rattle.walk_costs.proofs.CrossingLaws.{front_few, total_across}
use Rattle.walk_costs.proofs.RunLaws.{ends, in_century}
use Rattle.walk_costs.proofs.TotalLaws.{IsTotal}
use Rattle.walk_costs.proofs.WalkLaws.{most_fits}
use Rattle.walk_costs.proofs.walks.StationWalks.cost_across.Goals as goal
use Rattle.walk_costs.proofs.walks.StationWalks.cost_across.Goals.{After-cost}

pub local_time-u-requires : goal.local_time-u-requires
local_time-u-requires c =
    let w = c.args.self.now in
    let table = subst (λ (v : PricedParts). IsPartTable v.parts) c.self.view_is c.self.invariant.priced.table in
    let begins = c.requires.walk.begins in
    omega (arith, begins.not_over, ends w.parts table c.args.crossing.now.run begins.is_run, in_century w.parts table)

pub added_from-added-requires-clause-minute : goal.added_from-added-requires-clause-minute
added_from-added-requires-clause-minute c =
    let w = c.args.self.now in
    let table = subst (λ (v : PricedParts). IsPartTable v.parts) c.self.view_is c.self.invariant.priced.table in
    let begins = c.requires.walk.begins in
    omega (arith, begins.not_over, ends w.parts table c.args.crossing.now.run begins.is_run, in_century w.parts table)

pub run_across-run-requires : goal.run_across-run-requires
run_across-run-requires c =
    let count = c.runs.ensures ∙ ap (λ (v : PartTable). length v.runs) (c.parts.ensures ∙ ap (λ (v : PricedParts). v.parts) c.self.view_is) in
    omega (arith, count, c.requires.walk.ends.is_run)

priced : (c : After-cost) → ArePriced c.args.self.now.parts c.args.self.now.grid c.self.inside.walks c.self.inside.added
priced c = subst (λ (v : PricedParts). ArePriced v.parts v.grid c.self.inside.walks c.self.inside.added) c.self.view_is c.self.invariant.priced

fits : (c : After-cost) → most_cost c.args.self.now.grid ≤ 1_920_000_000
fits c = most_fits c.args.self.now c.self.inside.walks c.self.inside.added (priced c)

-- the sum, of which the dates cost no less than what the call sign takes of them
sum : (c : After-cost) → IsTotal c.args.self.now c.args.crossing.now.announced c.args.crossing.now.second c.args.t0
    (c.cost.result + (get_or c.args.crossing.now.dates (c.args.crossing.now.end - c.args.t0) 0 - c.lost_to_call-lost.result)) c.added_from-added.result
    × (c.lost_to_call-lost.result ≤ get_or c.args.crossing.now.dates (c.args.crossing.now.end - c.args.t0) 0)
sum c =
    let own = c.self.inside in
    let w = c.args.self.now in
    let x = c.args.crossing.now in
    let p = x.second in
    let u = c.local_time-u.result in
    let m = c.minutes_to_call-call.result in
    let front : ℕ = x.end - c.args.t0 in
    let few : front < 21 =
    omega (arith, front_few w own.walks own.added (priced c) x.announced p c.args.t0 x.run x.end c.requires.crossing.ends c.requires.walk, (priced c).short, c.requires.walk.second) in
    total_across w own.walks own.added (priced c) x.announced p c.args.t0 x.run x.end c.requires.crossing.ends c.requires.walk u m c.cost.result (get_or x.dates front 0)
    c.lost_to_call-lost.result c.added_from-added.result
    (c.local_time-u.ensures.time ∙ ap (λ s. (c.args.t0 + s) % 1440) c.requires.crossing.shift) c.minutes_to_call-call.ensures.minutes
    (c.cost.ensures ∙ (priced c).walks.each p u c.requires.walk.second c.local_time-u.ensures.bound)
    (c.requires.crossing.dates front few)
    (c.lost_to_call-lost.ensures
    ∙ ap (λ r. minute_cost w.grid.station (cost_at w.grid.rows) (length w.grid.rows) p m (given_up w.grid.station (part_where x.announced (run_at w.parts.runs r)))) c.run_across-run.ensures)
    c.added_from-added.ensures.one_day c.added_from-added.ensures.two_days

pub overflow_sub-result : goal.overflow_sub-result
overflow_sub-result c = (sum (goal.at.overflow_sub-result c).After-cost).1

pub overflow_add-result : goal.overflow_add-result
overflow_add-result c = let known = (goal.at.overflow_add-result c).After-cost in let total = sum known in omega (arith, total.0.bound, fits known)

pub overflow_add-result-2 : goal.overflow_add-result-2
overflow_add-result-2 c = let known = (goal.at.overflow_add-result-2 c).After-cost in let total = sum known in omega (arith, total.0.bound, fits known)

pub returns-clause-cost : goal.returns-clause-cost
returns-clause-cost c = (sum (goal.at.returns-clause-cost c).After-cost).0.cost

pub returns-clause-bound : goal.returns-clause-bound
returns-clause-bound c = (sum (goal.at.returns-clause-bound c).After-cost).0.bound
