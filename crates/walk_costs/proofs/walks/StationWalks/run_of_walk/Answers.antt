use Rattle.std.proofs.Common.{ap, ◌∙◌, subst, arith}
use Rattle.minute_parts.specs.Parts.{IsInRun, IsPartTable, PartTable}
use Rattle.minute_parts.specs.Runs.{end_of_run}
use Rattle.walk_costs.specs.Walks.{PricedParts}
use Rattle.walk_costs.proofs.RunLaws.{ends, in_century, one_run}
use Rattle.walk_costs.proofs.walks.StationWalks.run_of_walk.Goals.{then-p-ge-SECONDS_PER_MINUTE-via-then-p-ge-SECONDS_PER_MINUTE, then-p-ge-SECONDS_PER_MINUTE-via-else-p-ge-SECONDS_PER_MINUTE+then-t0-end}
use Rattle.walk_costs.proofs.walks.StationWalks.run_of_walk.Goals as goal

pub returns-then-p-ge-SECONDS_PER_MINUTE-clause-none : goal.returns-then-p-ge-SECONDS_PER_MINUTE-clause-none
returns-then-p-ge-SECONDS_PER_MINUTE-clause-none c = λ is_none i regular.
    let w = c.args.self.now in
    let table = subst (λ (v : PricedParts). IsPartTable v.parts) c.self.view_is c.self.invariant.priced.table in
    let end = ap (λ (v : PartTable). v.end) (c.parts-parts.ensures ∙ ap (λ (v : PricedParts). v.parts) c.self.view_is) in
    elim c.then-p-ge-SECONDS_PER_MINUTE.branch [
      | then-p-ge-SECONDS_PER_MINUTE-via-then-p-ge-SECONDS_PER_MINUTE w ↦ omega (arith, regular.second, w.if-p-ge-SECONDS_PER_MINUTE.true)
      | then-p-ge-SECONDS_PER_MINUTE-via-else-p-ge-SECONDS_PER_MINUTE+then-t0-end w ↦ omega (
        arith,
        regular.begins.not_over,
        ends c.args.self.now.parts table i regular.begins.is_run,
        end,
        w.end.ensures.value,
        w.if-t0-end.true,
      )
    ]

pub returns-then-later-run_end-clause-none : goal.returns-then-later-run_end-clause-none
returns-then-later-run_end-clause-none c = λ is_none i regular.
    let w = c.args.self.now in
    let run = c.run_of-run.result in
    let table = subst (λ (v : PricedParts). IsPartTable v.parts) c.self.view_is c.self.invariant.priced.table in
    let here = subst (λ (v : PartTable). IsInRun v c.args.t0 c.run_of-run.result) (c.parts-parts.ensures ∙ ap (λ (v : PricedParts). v.parts) c.self.view_is) c.run_of-run.ensures in
    let end = c.run_end.ensures ∙ ap (λ (v : PartTable). end_of_run v.runs v.end c.run_of-run.result) (c.parts-parts.ensures ∙ ap (λ (v : PricedParts). v.parts) c.self.view_is) in
    let same = ap (end_of_run w.parts.runs w.parts.end) (one_run w.parts table c.args.t0 i run regular.begins here) in
    omega (arith, regular.ends, same, end, c.later_minutes-later.ensures.count, c.if-later-run_end.true, here.not_over)

pub meets_leap_end-requires-clause-century : goal.meets_leap_end-requires-clause-century
meets_leap_end-requires-clause-century c =
    let w = c.args.self.now in
    let run = c.run_of-run.result in
    let table = subst (λ (v : PricedParts). IsPartTable v.parts) c.self.view_is c.self.invariant.priced.table in
    let here = subst (λ (v : PartTable). IsInRun v c.args.t0 c.run_of-run.result) (c.parts-parts.ensures ∙ ap (λ (v : PricedParts). v.parts) c.self.view_is) c.run_of-run.ensures in
    let end = c.run_end.ensures ∙ ap (λ (v : PartTable). end_of_run v.runs v.end c.run_of-run.result) (c.parts-parts.ensures ∙ ap (λ (v : PricedParts). v.parts) c.self.view_is) in
    omega (arith, end, c.if-later-run_end.false, ends w.parts table run here.is_run, in_century w.parts table)
