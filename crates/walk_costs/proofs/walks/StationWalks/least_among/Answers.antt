use Rattle.std.proofs.Common.{◌≡◌, ℕ, ◌+◌, ◌-◌, ◌%◌, ◌<◌, ◌≤◌, inl, inr, get_or, ap, ◌∙◌, subst, arith}
use Rattle.std.proofs.Math.Nat.{min-le_left, min-le_right}
use Rattle.std.proofs.lemmas.Bool.{cases_lt}
use Rattle.minute_parts.specs.declared.runs.Run.{Run}
use Rattle.minute_parts.specs.Parts.{IsPartTable, PartTable, part_where}
use Rattle.minute_parts.specs.Runs.{run_at}
use Rattle.slot_columns.specs.Parts.{entry, most_cost}
use Rattle.walk_costs.specs.Dates.{date_cost}
use Rattle.walk_costs.specs.Walks.{ArePriced, PricedParts, cost_of}
use Rattle.walk_costs.proofs.FloorLaws.{at_least}
use Rattle.walk_costs.proofs.RunLaws.{ends, in_century}
use Rattle.walk_costs.proofs.WalkLaws.{most_fits}
use Rattle.walk_costs.proofs.walks.StationWalks.least_among.Goals as goal
use Rattle.walk_costs.proofs.walks.StationWalks.least_among.Goals.{After-minutes_to_call}

pub added_to_all-added-requires-clause-century : goal.added_to_all-added-requires-clause-century
added_to_all-added-requires-clause-century c =
    let w = c.args.self.now in
    let table = subst (λ (v : PricedParts). IsPartTable v.parts) c.self.view_is c.self.invariant.priced.table in
    let begins = (c.requires.walks (c.args.hi - 1) (omega (arith, c.requires.some)) (omega (arith, c.requires.some))).begins in
    omega (arith, begins.not_over, ends w.parts table c.args.run begins.is_run, in_century w.parts table)

pub local_time-u-requires : goal.local_time-u-requires
local_time-u-requires c =
    let w = c.args.self.now in
    let table = subst (λ (v : PricedParts). IsPartTable v.parts) c.self.view_is c.self.invariant.priced.table in
    let begins = (c.requires.walks c.loop-t0.t0 (omega (arith, c.loop-t0.auto.t0)) (omega (arith, c.loop-t0-test.true))).begins in
    omega (arith, begins.not_over, ends w.parts table c.args.run begins.is_run, in_century w.parts table)

priced : (c : After-minutes_to_call) → ArePriced c.args.self.now.parts c.args.self.now.grid c.self.inside.walks c.self.inside.added
priced c = subst (λ (v : PricedParts). ArePriced v.parts v.grid c.self.inside.walks c.self.inside.added) c.self.view_is c.self.invariant.priced

-- the walk of the minute costs no less than its time of day and its date, and no more than the slots can
here : (c : After-minutes_to_call)
    → (entry c.self.inside.walks c.args.p c.local_time-u.result + get_or c.date_costs-dates.result c.minutes_to_call.result 0 + c.added_to_all-added.result
    ≤ cost_of c.args.self.now c.args.announced c.args.p c.loop-t0.t0)
    × (cost_of c.args.self.now c.args.announced c.args.p c.loop-t0.t0 ≤ most_cost c.args.self.now.grid)
here c =
    let own = c.self.inside in
    let w = c.args.self.now in
    let i = c.args.run in
    let t0 = c.loop-t0.t0 in
    let u = c.local_time-u.result in
    let ge : c.args.lo ≤ t0 = omega (arith, c.loop-t0.auto.t0) in
    let lt : t0 < c.args.hi = omega (arith, c.loop-t0-test.true) in
    let parts_is = c.parts.ensures ∙ ap (λ (v : PricedParts). v.parts) c.self.view_is in
    let run_is = c.run.ensures ∙ ap (λ (v : PartTable). run_at v.runs i) parts_is in
    let time = c.local_time-u.ensures.time ∙ ap (λ (r : Run). (t0 + r.shift) % 1440) run_is in
    let found = at_least w own.walks own.added (priced c) c.args.announced c.args.p t0 i u (c.requires.walks t0 ge lt) time c.added_to_all-added.result
    (c.added_to_all-added.ensures t0 ge lt) in
    let date = c.date_costs-dates.ensures c.minutes_to_call.result c.minutes_to_call.ensures.bound in
    let called = ap (λ m. date_cost w.grid c.args.p m (part_where c.args.announced (run_at w.parts.runs i))) c.minutes_to_call.ensures.minutes in
    (omega (arith, found.0, date, called), found.1)

pub overflow_add-cost : goal.overflow_add-cost
overflow_add-cost c =
    let known = (goal.at.overflow_add-cost c).After-minutes_to_call in
    let now = here known in
    omega (arith, now.0, now.1, known.row-row.ensures known.local_time-u.result, most_fits c.args.self.now known.self.inside.walks known.self.inside.added (priced known))

pub loop-t0-preserved : goal.loop-t0-preserved
loop-t0-preserved c =
    let known = (goal.at.loop-t0-preserved c).After-minutes_to_call in
    let now = here known in
    let row = known.row-row.ensures known.local_time-u.result in
    let before = c.loop-t0.invariant in
    let cost : ℕ = get_or known.row-row.result.now known.local_time-u.result 0 + get_or known.date_costs-dates.result known.minutes_to_call.result 0 in
    record {
      floor = λ t ge lt. elim (cases_lt t c.loop-t0.t0) [
        | inl early ↦ omega (arith, before.floor t ge early, c.min-least.ensures, min-le_left c.loop-t0.least cost)
        | inr late ↦ (
            let same : t ≡ c.loop-t0.t0 = omega (arith, late, lt) in
            omega (arith, ap (cost_of c.args.self.now c.args.announced c.args.p) same, now.0, row, c.min-least.ensures, min-le_right c.loop-t0.least cost))
      ];
      small = λ _. omega (arith, now.0, now.1, row, c.min-least.ensures, min-le_right c.loop-t0.least cost);
    }

pub overflow_add-result : goal.overflow_add-result
overflow_add-result c =
    let own = c.self.inside in
    let priced_here = subst (λ (v : PricedParts). ArePriced v.parts v.grid own.walks own.added) c.self.view_is c.self.invariant.priced in
    omega (arith, c.loop-t0.invariant.small (omega (arith, c.requires.some, c.loop-t0-test.false)), most_fits c.args.self.now own.walks own.added priced_here)

pub returns-clause-floor : goal.returns-clause-floor
returns-clause-floor c = λ t0 ge lt. c.loop-t0.invariant.floor t0 ge (omega (arith, lt, c.loop-t0-test.false))

pub returns-clause-bound : goal.returns-clause-bound
returns-clause-bound c = c.loop-t0.invariant.small (omega (arith, c.requires.some, c.loop-t0-test.false))
