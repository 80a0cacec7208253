use Rattle.std.proofs.Common.{ℕ, ◌+◌, ◌-◌, ◌≤◌, length, get_or, subst, arith}
use Rattle.minute_parts.specs.Parts.{IsPartTable}
use Rattle.minute_parts.specs.Walks.{later_minutes}
use Rattle.slot_columns.specs.Parts.{most_cost}
use Rattle.walk_costs.specs.Walks.{ArePriced, PricedParts, cost_of}
use Rattle.walk_costs.proofs.ChangeLaws.{front_few, least_over}
use Rattle.walk_costs.proofs.RunLaws.{ends, in_century}
use Rattle.walk_costs.proofs.WalkLaws.{most_fits}
use Rattle.walk_costs.proofs.walks.StationWalks.floor_over.Goals as goal
use Rattle.walk_costs.proofs.walks.StationWalks.floor_over.Goals.{After-added_from-added}

pub added_from-added-requires-clause-minute : goal.added_from-added-requires-clause-minute
added_from-added-requires-clause-minute c =
    let w = c.args.self.now in
    let table = subst (λ (v : PricedParts). IsPartTable v.parts) c.self.view_is c.self.invariant.priced.table in
    let begins = c.requires.walk.begins in
    omega (arith, begins.not_over, ends w.parts table c.args.over.now.run begins.is_run, in_century w.parts table)

priced : (c : After-added_from-added) → ArePriced c.args.self.now.parts c.args.self.now.grid c.self.inside.walks c.self.inside.added
priced c = subst (λ (v : PricedParts). ArePriced v.parts v.grid c.self.inside.walks c.self.inside.added) c.self.view_is c.self.invariant.priced

-- few of the walk's minutes lie in the first run
few : (c : After-added_from-added) → later_minutes (length c.args.self.now.grid.rows) c.args.over.now.second ≤ 20
few c = omega (arith, (priced c).short, c.requires.walk.second)

in_front : (c : After-added_from-added) → c.args.over.now.end - c.args.t0 ≤ later_minutes (length c.args.self.now.grid.rows) c.args.over.now.second
in_front c =
    let own = c.self.inside in
    let x = c.args.over.now in
    let over = c.requires.costs in
    front_few c.args.self.now own.walks own.added (priced c) x.announced x.second c.args.t0 x.run x.last x.end over.ends c.requires.walk over.runs.0 over.runs.1 over.keeps

sum : (c : After-added_from-added)
    → (get_or c.args.over.now.times (c.args.over.now.end - c.args.t0) 0 + get_or c.args.over.now.dates (c.args.over.now.end - c.args.t0) 0 + c.added_from-added.result
    ≤ cost_of c.args.self.now c.args.over.now.announced c.args.over.now.second c.args.t0)
    × (cost_of c.args.self.now c.args.over.now.announced c.args.over.now.second c.args.t0 ≤ most_cost c.args.self.now.grid)
sum c =
    let own = c.self.inside in
    let x = c.args.over.now in
    let over = c.requires.costs in
    let front : ℕ = x.end - c.args.t0 in
    least_over c.args.self.now own.walks own.added (priced c) x.announced x.second c.args.t0 x.run x.last x.end over.ends c.requires.walk over.runs.0 over.runs.1 over.keeps
    (get_or x.times front 0) (get_or x.dates front 0) c.added_from-added.result (over.times front (in_front c))
    (over.dates front (omega (arith, in_front c, few c))) c.added_from-added.ensures.one_day c.added_from-added.ensures.two_days

fits : (c : After-added_from-added) → most_cost c.args.self.now.grid ≤ 1_920_000_000
fits c = most_fits c.args.self.now c.self.inside.walks c.self.inside.added (priced c)

pub bounds-over-front : goal.bounds-over-front
bounds-over-front c =
    let known = (goal.at.bounds-over-front c).After-added_from-added in
    omega (arith, in_front known, few known)

pub overflow_add-result : goal.overflow_add-result
overflow_add-result c =
    let known = (goal.at.overflow_add-result c).After-added_from-added in
    let all = sum known in
    omega (arith, all.0, all.1, fits known)

pub overflow_add-result-2 : goal.overflow_add-result-2
overflow_add-result-2 c =
    let known = (goal.at.overflow_add-result-2 c).After-added_from-added in
    let all = sum known in
    omega (arith, all.0, all.1, fits known)

pub returns-clause-floor : goal.returns-clause-floor
returns-clause-floor c = (sum (goal.at.returns-clause-floor c).After-added_from-added).0

pub returns-clause-bound : goal.returns-clause-bound
returns-clause-bound c =
    let all = sum (goal.at.returns-clause-bound c).After-added_from-added in
    omega (arith, all.0, all.1)
