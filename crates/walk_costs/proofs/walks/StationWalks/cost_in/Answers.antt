use Rattle.std.proofs.Common.{get_or, ◌+◌, ◌≤◌, ◌%◌, ap, ◌∙◌, subst, arith}
use Rattle.minute_parts.specs.declared.runs.Run.{Run}
use Rattle.minute_parts.specs.Parts.{IsPartTable, PartTable}
use Rattle.minute_parts.specs.Runs.{run_at}
use Rattle.slot_columns.specs.Parts.{most_cost}
use Rattle.walk_costs.specs.Walks.{ArePriced, PricedParts}
use Rattle.walk_costs.proofs.RunLaws.{ends, in_century}
use Rattle.walk_costs.proofs.TotalLaws.{IsTotal}
use Rattle.walk_costs.proofs.WalkLaws.{most_fits, total_at}
use Rattle.walk_costs.proofs.walks.StationWalks.cost_in.Goals as goal
use Rattle.walk_costs.proofs.walks.StationWalks.cost_in.Goals.{After-cost}

pub local_time-u-requires : goal.local_time-u-requires
local_time-u-requires c =
    let w = c.args.self.now in
    let table = subst (λ (v : PricedParts). IsPartTable v.parts) c.self.view_is c.self.invariant.priced.table in
    let begins = c.requires.begins in
    omega (arith, begins.not_over, ends w.parts table c.args.run begins.is_run, in_century w.parts table)

pub added_from-added-requires-clause-minute : goal.added_from-added-requires-clause-minute
added_from-added-requires-clause-minute c =
    let w = c.args.self.now in
    let table = subst (λ (v : PricedParts). IsPartTable v.parts) c.self.view_is c.self.invariant.priced.table in
    let begins = c.requires.begins in
    omega (arith, begins.not_over, ends w.parts table c.args.run begins.is_run, in_century w.parts table)

priced : (c : After-cost) → ArePriced c.args.self.now.parts c.args.self.now.grid c.self.inside.walks c.self.inside.added
priced c = subst (λ (v : PricedParts). ArePriced v.parts v.grid c.self.inside.walks c.self.inside.added) c.self.view_is c.self.invariant.priced

fits : (c : After-cost) → most_cost c.args.self.now.grid ≤ 1_920_000_000
fits c = most_fits c.args.self.now c.self.inside.walks c.self.inside.added (priced c)

sum : (c : After-cost) → IsTotal c.args.self.now c.args.announced c.args.p c.args.t0 (c.cost.result + get_or c.date_costs-dates.result c.minutes_to_call.result 0) c.added_from-added.result
sum c =
    let own = c.self.inside in
    let w = c.args.self.now in
    let i = c.args.run in
    let u = c.local_time-u.result in
    let m = c.minutes_to_call.result in
    let parts_is = c.parts.ensures ∙ ap (λ (v : PricedParts). v.parts) c.self.view_is in
    let run_is = c.run.ensures ∙ ap (λ (v : PartTable). run_at v.runs i) parts_is in
    total_at w own.walks own.added (priced c) c.args.announced c.args.p c.args.t0 i c.requires u m c.cost.result (get_or c.date_costs-dates.result m 0) c.added_from-added.result
    (c.local_time-u.ensures.time ∙ ap (λ (r : Run). (c.args.t0 + r.shift) % 1440) run_is) c.minutes_to_call.ensures.minutes
    (c.cost.ensures ∙ (priced c).walks.each c.args.p u c.requires.second c.local_time-u.ensures.bound)
    (c.date_costs-dates.ensures m c.minutes_to_call.ensures.bound) c.added_from-added.ensures.one_day c.added_from-added.ensures.two_days

pub overflow_add-result : goal.overflow_add-result
overflow_add-result c = let known = (goal.at.overflow_add-result c).After-cost in let total = sum known in omega (arith, total.bound, fits known)

pub overflow_add-result-2 : goal.overflow_add-result-2
overflow_add-result-2 c = let known = (goal.at.overflow_add-result-2 c).After-cost in let total = sum known in omega (arith, total.bound, fits known)

pub returns-clause-cost : goal.returns-clause-cost
returns-clause-cost c = (sum (goal.at.returns-clause-cost c).After-cost).cost

pub returns-clause-bound : goal.returns-clause-bound
returns-clause-bound c = (sum (goal.at.returns-clause-bound c).After-cost).bound
