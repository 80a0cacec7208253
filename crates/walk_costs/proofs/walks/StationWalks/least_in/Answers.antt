use Rattle.std.proofs.Common.{ℕ, ◌+◌, ◌-◌, ◌%◌, ◌<◌, ◌≤◌, false, refl, inl, subst, arith}
use Rattle.slot_columns.specs.Parts.{most_cost}
use Rattle.minute_parts.specs.Parts.{IsPartTable}
use Rattle.minute_parts.specs.Runs.{run_at}
use Rattle.walk_costs.specs.Dates.{part_cost}
use Rattle.walk_costs.specs.Leasts.{AreLeast}
use Rattle.walk_costs.specs.Walks.{ArePriced, PricedParts, cost_of}
use Rattle.walk_costs.proofs.FloorLaws.{no_more}
use Rattle.walk_costs.proofs.NeighbourLaws.{both_dates, both_held, floor}
use Rattle.walk_costs.proofs.RunLaws.{ends, in_century}
use Rattle.walk_costs.proofs.WalkLaws.{most_fits, one_run}
use Rattle.walk_costs.proofs.walks.StationWalks.least_in.Goals as goal
use Rattle.walk_costs.proofs.walks.StationWalks.least_in.Goals.{After-added_to_all-added}

priced : (c : After-added_to_all-added) → ArePriced c.args.self.now.parts c.args.self.now.grid c.self.inside.walks c.self.inside.added
priced c = subst (λ (v : PricedParts). ArePriced v.parts v.grid c.self.inside.walks c.self.inside.added) c.self.view_is c.self.invariant.priced

least : (c : After-added_to_all-added) → AreLeast c.args.self.now.parts c.args.self.now.grid false c.self.inside.least.inside
least c = subst (λ (v : PricedParts). AreLeast v.parts v.grid false c.self.inside.least.inside) c.self.view_is c.self.invariant.inside

-- none of the walks costs less, and none more than the slots can
each : (c : After-added_to_all-added) (t0 : ℕ) → c.args.lo ≤ t0 → t0 < c.args.hi
    → (c.kept_cost_of_both-dates.result + c.at-least.result + c.added_to_all-added.result ≤ cost_of c.args.self.now c.args.announced c.args.p t0)
    × (cost_of c.args.self.now c.args.announced c.args.p t0 ≤ most_cost c.args.self.now.grid)
each c t0 ge lt =
    let w = c.args.self.now in
    let own = c.self.inside in
    let p = c.args.p in
    let i = c.args.run in
    let regular = c.requires.walks t0 ge lt in
    let is_run = regular.begins.is_run in
    let shift : ℕ = (run_at w.parts.runs i).shift in
    let u : ℕ = (t0 + shift) % 1440 in
    let dates = both_dates w own.walks own.added (priced c) c.args.announced p i i regular.second is_run is_run in
    let held = both_held w own.walks own.added (priced c) c.args.announced p i i regular.second is_run is_run in
    let found = floor w own.walks own.added (priced c) c.args.announced p i i regular.second is_run is_run dates held t0 shift (λ m. i)
    (one_run w own.walks own.added (priced c) c.args.announced p t0 i regular) (λ m. inl refl) c.added_to_all-added.result (c.added_to_all-added.ensures t0 ge lt) in (
      omega (
        arith,
        c.kept_cost_of_both-dates.ensures,
        c.at-least.ensures,
        no_more w own.walks own.added (priced c) false c.args.announced p i regular.second is_run is_run own.least.inside (least c) (part_cost w.grid p dates) u (omega arith) (1439 - u, omega arith, omega arith),
        found.0,
      ),
      found.1,
    )

fits : (c : After-added_to_all-added) → c.kept_cost_of_both-dates.result + c.at-least.result + c.added_to_all-added.result ≤ most_cost c.args.self.now.grid
fits c = let first = each c c.args.lo (omega arith) c.requires.some in omega (arith, first.0, first.1)

pub overflow_add-result : goal.overflow_add-result
overflow_add-result c =
    let known = (goal.at.overflow_add-result c).After-added_to_all-added in
    omega (arith, fits known, most_fits c.args.self.now known.self.inside.walks known.self.inside.added (priced known))

pub overflow_add-result-2 : goal.overflow_add-result-2
overflow_add-result-2 c =
    let known = (goal.at.overflow_add-result-2 c).After-added_to_all-added in
    omega (arith, fits known, most_fits c.args.self.now known.self.inside.walks known.self.inside.added (priced known))

pub returns-clause-floor : goal.returns-clause-floor
returns-clause-floor c = λ t0 ge lt. (each (goal.at.returns-clause-floor c).After-added_to_all-added t0 ge lt).0

pub returns-clause-bound : goal.returns-clause-bound
returns-clause-bound c = fits (goal.at.returns-clause-bound c).After-added_to_all-added

pub added_to_all-added-requires-clause-century : goal.added_to_all-added-requires-clause-century
added_to_all-added-requires-clause-century c =
    let w = c.args.self.now in
    let table = subst (λ (v : PricedParts). IsPartTable v.parts) c.self.view_is c.self.invariant.priced.table in
    let begins = (c.requires.walks (c.args.hi - 1) (omega (arith, c.requires.some)) (omega (arith, c.requires.some))).begins in
    omega (arith, begins.not_over, ends w.parts table c.args.run begins.is_run, in_century w.parts table)
