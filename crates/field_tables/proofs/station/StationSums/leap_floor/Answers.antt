use Rattle.std.proofs.Common.{◌≡◌, ◌≤◌, length, slice_index, ap, ◌∙◌, subst}
use Rattle.symbol_cost.specs.Grid.{Grid}
use Rattle.slot_columns.specs.Parts.{most_cost}
use Rattle.walk_costs.specs.Walks.{PricedParts}
use Rattle.block_costs.specs.Blocks.{unions_cost}
use Rattle.field_tables.proofs.LeapLaws.{leap_floor_is}
use Rattle.field_tables.proofs.station.StationSums.leap_floor.Goals as goal

pub returns-clause-floor : goal.returns-clause-floor
returns-clause-floor c =
    let w = c.args.self.now in
    let own = c.self.inside in
    let its = c.walks-walks.ensures ∙ c.self.view_is in
    let grid_is = c.columns.ensures.columns ∙ ap (λ (v : PricedParts). v.grid) its in
    let same_station = subst (λ (v : PricedParts). v.parts.station ≡ v.grid.station) its c.unions.ensures.station in
    let station : own.leaps.now.station ≡ w.grid.station = c.self.invariant.0 ∙ ap (λ (v : PricedParts). v.parts.station) c.self.view_is ∙ same_station in
    let seconds : own.leaps.now.seconds ≡ length w.grid.rows = c.self.invariant.1 ∙ ap (λ (v : PricedParts). length v.grid.rows) c.self.view_is in
    let price = subst (λ (g : Grid). c.sets_cost.result ≡ unions_cost g (slice_index c.in_ok-sets.sets)) grid_is c.sets_cost.ensures.cost in
    leap_floor_is w own.leaps.now c.args.p c.args.lo c.args.hi c.sets_cost.result c.in_ok-sets.sets c.in_ok-sets.ensures station seconds c.requires.second price

pub returns-clause-small : goal.returns-clause-small
returns-clause-small c =
    let its = c.walks-walks.ensures ∙ c.self.view_is in
    let grid_is = c.columns.ensures.columns ∙ ap (λ (v : PricedParts). v.grid) its in
    subst (λ (g : Grid). c.sets_cost.result ≤ most_cost g) grid_is c.sets_cost.ensures.bound
