use Rattle.std.proofs.Common.{◌≡◌, ◌+◌, ◌<◌, ℕ, get_or, ap, ◌∙◌, subst, arith}
use Rattle.minute_parts.specs.declared.runs.Run.{Run}
use Rattle.minute_parts.specs.Parts.{PartTable, part_where}
use Rattle.minute_parts.specs.Runs.{run_at}
use Rattle.walk_costs.specs.Dates.{date_cost, given_cost}
use Rattle.walk_costs.specs.Walks.{ArePriced, PricedParts}
use Rattle.walk_costs.proofs.DateLaws.{date_by_second, part_bound}
use Rattle.walk_costs.proofs.WalkLaws.{most_fits}
use Rattle.walk_costs.proofs.walks.StationWalks.date_costs.Goals as goal
use Rattle.walk_costs.proofs.walks.StationWalks.date_costs.Goals.{After-kept_date_cost-kept}

-- the seconds that are kept, and those that are given up
sum : (c : After-kept_date_cost-kept) → (m : ℕ) → m < 30 → c.kept_date_cost-kept.result + get_or c.given_costs-given.result m 0
    ≡ date_cost c.args.self.now.grid c.args.p m (part_where c.args.announced (run_at c.args.self.now.parts.runs c.args.run))
sum c m minute =
    let w = c.args.self.now in
    let p = c.args.p in
    let part = part_where c.args.announced (run_at w.parts.runs c.args.run) in
    let parts_is = c.parts.ensures ∙ ap (λ (v : PricedParts). v.parts) c.self.view_is in
    let run_is = c.run.ensures ∙ ap (λ (v : PartTable). run_at v.runs c.args.run) parts_is in
    let part_is = c.date_part-part.ensures ∙ ap (λ (r : Run). part_where c.args.announced r) run_is in
    let given = c.given_costs-given.ensures.costs m minute ∙ ap (λ (v : PricedParts). given_cost v.grid p m c.date_part-part.result.now) c.self.view_is
    ∙ ap (given_cost w.grid p m) part_is in
    omega (arith, c.kept_date_cost-kept.ensures, given, date_by_second w.grid p (part_where c.args.announced (run_at w.parts.runs c.args.run)) m)

pub overflow_add-costs : goal.overflow_add-costs
overflow_add-costs c =
    let known = (goal.at.overflow_add-costs c).After-kept_date_cost-kept in
    let w = c.args.self.now in
    let own = known.self.inside in
    let priced = subst (λ (v : PricedParts). ArePriced v.parts v.grid own.walks own.added) known.self.view_is known.self.invariant.priced in
    omega (
      arith,
      sum known c.loop-m.m (omega (arith, c.loop-m-test.true)),
      part_bound w.grid c.args.p (part_where c.args.announced (run_at w.parts.runs c.args.run)) priced.small,
      most_fits w own.walks own.added priced,
    )

pub returns : goal.returns
returns c = λ m minute. c.loop-m.invariant.done m (omega (arith, minute, c.loop-m-test.false)) ∙ sum (goal.at.returns c).After-kept_date_cost-kept m minute
