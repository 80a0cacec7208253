use Rattle.std.proofs.Common.{◌≡◌, ℕ, ◌+◌, ◌-◌, ◌%◌, ◌<◌, ◌≤◌, List, length, get_or, sym, ap, ◌∙◌, subst, arith}
use Rattle.minute_parts.specs.declared.runs.Run.{Run}
use Rattle.minute_parts.specs.Parts.{IsInRun, IsPartTable, PartTable}
use Rattle.minute_parts.specs.Runs.{run_at}
use Rattle.minute_parts.specs.Walks.{later_minutes}
use Rattle.slot_columns.specs.Parts.{most_cost}
use Rattle.walk_costs.specs.Apart.{IsRunAtEnd, time_cost, told_of_both}
use Rattle.walk_costs.specs.Dates.{given_cost, minutes_to_call}
use Rattle.walk_costs.specs.Walks.{ArePriced, PricedParts, cost_of}
use Rattle.walk_costs.proofs.ApartLaws.{no_less}
use Rattle.walk_costs.proofs.RunLaws.{in_century}
use Rattle.walk_costs.proofs.WalkLaws.{most_fits}
use Rattle.walk_costs.proofs.walks.StationWalks.date_floor.Goals as goal
use Rattle.walk_costs.proofs.walks.StationWalks.date_floor.Goals.{After-added_to_all}

pub added_to_all-requires-clause-century : goal.added_to_all-requires-clause-century
added_to_all-requires-clause-century c =
    let w = c.args.self.now in
    let table = subst (λ (v : PricedParts). IsPartTable v.parts) c.self.view_is c.self.invariant.priced.table in
    omega (arith, c.requires.regular.early, in_century w.parts table)

priced : (c : After-added_to_all) → ArePriced c.args.self.now.parts c.args.self.now.grid c.self.inside.walks c.self.inside.added
priced c = subst (λ (v : PricedParts). ArePriced v.parts v.grid c.self.inside.walks c.self.inside.added) c.self.view_is c.self.invariant.priced

-- the run in which the first walk begins, and that in which the last ends
begins : (c : After-added_to_all) → IsInRun c.args.self.now.parts c.args.lo c.run_of-run.result
begins c =
    subst (λ (v : PartTable). IsInRun v c.args.lo c.run_of-run.result) (c.parts-parts.ensures ∙ ap (λ (v : PricedParts). v.parts) c.self.view_is) c.run_of-run.ensures

at_end : (c : After-added_to_all)
    → IsRunAtEnd c.args.self.now.parts c.run_of-run.result (c.args.hi - 1 + later_minutes (length c.args.self.now.grid.rows) c.args.p) c.in_ok-next.next
at_end c =
    subst (λ n. IsRunAtEnd c.args.self.now.parts c.run_of-run.result (c.args.hi - 1 + n) c.in_ok-next.next) c.later_minutes.ensures.count
    (subst (λ (v : PartTable). IsRunAtEnd v c.run_of-run.result (c.args.hi - 1 + c.later_minutes.result) c.in_ok-next.next)
    (c.parts-parts.ensures ∙ ap (λ (v : PricedParts). v.parts) c.self.view_is) c.in_ok-next.ensures)

-- the minute of the local day that a walk's first minute encodes
abbrev of_day : After-added_to_all → ℕ → ℕ
of_day c t0 = (t0 + (run_at c.args.self.now.parts.runs c.run_of-run.result).shift) % 1440

-- what the dates of both runs tell
abbrev told : After-added_to_all → List ℕ
told c = told_of_both c.args.self.now.parts c.args.announced c.run_of-run.result c.in_ok-next.next

-- none of the walks costs less, and none more than the slots can
each : (c : After-added_to_all) (t0 : ℕ) → c.args.lo ≤ t0 → t0 < c.args.hi
    → (time_cost c.args.self.now c.args.p (of_day c t0) + (c.kept_cost_of_both.result + c.added_to_all.result)
    + given_cost c.args.self.now.grid c.args.p (minutes_to_call (of_day c t0)) (told c)
    ≤ cost_of c.args.self.now c.args.announced c.args.p t0)
    × (cost_of c.args.self.now c.args.announced c.args.p t0 ≤ most_cost c.args.self.now.grid)
each c t0 ge lt =
    let own = c.self.inside in
    let found = no_less c.args.self.now c.args.announced c.args.p c.args.lo c.args.hi c.run_of-run.result c.in_ok-next.next c.requires.second (begins c) c.requires.regular
    (at_end c) own.walks own.added (priced c) t0 c.added_to_all.result ge lt (c.added_to_all.ensures t0 ge lt) in
    (omega (arith, c.kept_cost_of_both.ensures, found.0), found.1)

pub overflow_add-result : goal.overflow_add-result
overflow_add-result c =
    let known = (goal.at.overflow_add-result c).After-added_to_all in
    let first = each known c.args.lo (omega arith) c.requires.order in
    omega (arith, first.0, first.1, most_fits c.args.self.now known.self.inside.walks known.self.inside.added (priced known))

few : (u : ℕ) → minutes_to_call u < 30
few u = omega arith

pub returns : goal.returns
returns c = λ t0 ge lt.
    let w = c.args.self.now in
    let p = c.args.p in
    let known = (goal.at.returns c).After-added_to_all in
    let u : ℕ = (t0 + (run_at w.parts.runs c.run_of-run.result).shift) % 1440 in
    let parts_is = c.parts-parts.ensures ∙ ap (λ (v : PricedParts). v.parts) c.self.view_is in
    let shift : (run_at w.parts.runs c.run_of-run.result).shift ≡ c.run.result.now.shift =
    sym (ap (λ (r : Run). r.shift) (c.run.ensures ∙ ap (λ (v : PartTable). run_at v.runs c.run_of-run.result) parts_is)) in
    subst (λ s. time_cost w p ((t0 + s) % 1440) + (c.kept_cost_of_both.result + c.added_to_all.result) + get_or c.given_of_both.result (minutes_to_call ((t0 + s) % 1440)) 0
    ≤ cost_of w c.args.announced p t0) shift
    (omega (
      arith,
      (each known t0 ge lt).0,
      c.given_of_both.ensures (minutes_to_call u) (few u),
    ))
