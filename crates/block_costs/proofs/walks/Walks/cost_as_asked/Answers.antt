use Rattle.std.proofs.Common.{◌∙◌, length, subst, ap, arith}
use Rattle.signal_base.specs.declared.station.Station.{Station}
use Rattle.symbol_cost.specs.Grid.{Grid, cost_at}
use Rattle.minute_parts.specs.Parts.{PartTable}
use Rattle.slot_columns.specs.Parts.{layered_cost}
use Rattle.minute_parts.specs.Layers.{AreLayers}
use Rattle.block_costs.proofs.UnionLaws.{layers_cost}
use Rattle.block_costs.proofs.walks.Walks.cost_as_asked.Goals as goal

pub returns-in-Some-clause-cost : goal.returns-in-Some-clause-cost
returns-in-Some-clause-cost c = λ sets are.
    let grid = c.args.self.now.station.now.grid in
    let layers = c.in-Some.layers in
    let station_is = ap (λ (v : PartTable). v.station) c.unions-unions.ensures.unions ∙ c.unions-unions.ensures.station in
    let two = subst (λ (s : Station). AreLayers s c.args.self.now.announced c.args.self.now.lo c.args.self.now.hi c.later_minutes-reach.result c.in-Some.layers) station_is c.in-Some.ensures.layers in
    c.layered_cost.ensures.cost
    ∙ ap (λ (g : Grid). layered_cost g.station (cost_at g.rows) (length g.rows) c.args.self.now.second c.in-Some.layers.first c.in-Some.layers.rest) c.columns-columns.ensures.columns
    ∙ layers_cost grid c.args.self.now.announced c.args.self.now.second c.args.self.now.lo c.args.self.now.hi c.later_minutes-reach.result layers c.args.self.now.in_a_minute
    (omega (arith, c.later_minutes-reach.ensures.count)) two sets are
