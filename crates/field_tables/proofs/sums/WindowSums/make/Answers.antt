use Rattle.std.proofs.Common.{◌<◌, ℕ, List, subst}
use Rattle.std.specs.List.{All}
use Rattle.definitions.specs.time.Calendar.{century_minutes}
use Rattle.walk_costs.specs.Walks.{PricedParts}
use Rattle.field_tables.specs.Seasons.{IsSeason}
use Rattle.field_tables.proofs.StationLaws.{agree_with, are_sums}
use Rattle.field_tables.proofs.sums.WindowSums.make.Goals as goal

pub invariant_of-result : goal.invariant_of-result
invariant_of-result c =
    let end = c.end_of-end.result in
    let each = subst (λ (ws : List PricedParts). (t : ℕ) → t < end → All (λ (w : PricedParts). t < w.parts.end) ws) c.deref.ensures.value c.end_of-end.ensures.end in
    let before = subst (λ (ws : List PricedParts). (t : ℕ) → t < century_minutes → All (λ (w : PricedParts). t < w.parts.end) ws → t < end) c.deref.ensures.value c.end_of-end.ensures.before in (
      are_sums c.args.window.now c.args.grids.now c.in_ok-stations.stations.items end c.requires.window c.requires.grids c.in_ok-stations.ensures each before c.end_of-end.ensures.bound,
      subst (λ (ws : List PricedParts). All (IsSeason ws c.args.window.now.seconds) c.in_ok-seasons.seasons.items) c.deref-2.ensures.value c.in_ok-seasons.ensures,
    )

pub returns-clause-costs : goal.returns-clause-costs
returns-clause-costs c = agree_with c.args.window.now c.args.grids.now c.in_ok-stations.stations.items c.in_ok-stations.ensures c.requires.grids
