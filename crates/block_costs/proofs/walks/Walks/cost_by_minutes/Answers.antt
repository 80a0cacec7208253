use Rattle.std.proofs.Common.{◌+◌, ◌∙◌, length, get_or, subst, ap, arith}
use Rattle.signal_base.specs.declared.station.Station.{Station}
use Rattle.symbol_cost.specs.Grid.{Grid, cost_at}
use Rattle.minute_parts.specs.Parts.{PartTable}
use Rattle.slot_columns.specs.Parts.{minute_cost}
use Rattle.minute_parts.specs.Unions.{IsUnionOver}
use Rattle.block_costs.proofs.SumLaws.{all_minutes, bounded, minute_more, most_fits, none_yet}
use Rattle.block_costs.proofs.walks.Walks.cost_by_minutes.Goals as goal

pub loop-m-init : goal.loop-m-init
loop-m-init c = record { spent = none_yet c.args.self.now.station.now.grid c.args.self.now.announced c.args.self.now.second c.args.self.now.lo c.args.self.now.hi }

pub overflow_add-cost : goal.overflow_add-cost
overflow_add-cost c =
    let grid = c.args.self.now.station.now.grid in
    let station_is = ap (λ (v : PartTable). v.station) c.unions-unions.ensures.unions ∙ c.unions-unions.ensures.station in
    let price = c.minute_cost-cost.ensures.cost
    ∙ ap (λ (g : Grid). minute_cost g.station (cost_at g.rows) (length g.rows) c.args.self.now.second c.loop-m.m c.over-union.result) c.columns-columns.ensures.columns in
    let more = minute_more grid c.args.self.now.announced c.args.self.now.second c.args.self.now.lo c.args.self.now.hi c.loop-m.m c.loop-m.cost c.over-union.result c.minute_cost-cost.result c.loop-m.invariant.spent
    (λ s lt. subst (λ (st : Station). IsUnionOver st c.args.self.now.announced (c.args.self.now.lo + c.loop-m.m) (c.args.self.now.hi + c.loop-m.m) s (get_or c.over-union.result s 0)) station_is (c.over-union.ensures s lt))
    price in
    let small = bounded grid c.args.self.now.announced c.args.self.now.second c.args.self.now.lo c.args.self.now.hi (c.loop-m.m + 1) (c.loop-m.cost + c.minute_cost-cost.result) c.columns-columns.ensures.small more in
    let rows = ap (λ (g : Grid). length g.rows) c.columns-columns.ensures.columns in
    let receivers = ap (λ (g : Grid). g.receivers) c.columns-columns.ensures.columns in
    let fits = most_fits c.args.self.now.station.now.grid (omega (arith, rows, c.seconds.ensures.count, c.seconds.ensures.bound)) (omega (arith, receivers, c.receivers.ensures.count, c.receivers.ensures.bound)) in
    omega (arith, small, fits)

pub loop-m-preserved : goal.loop-m-preserved
loop-m-preserved c =
    let grid = c.args.self.now.station.now.grid in
    let station_is = ap (λ (v : PartTable). v.station) c.unions-unions.ensures.unions ∙ c.unions-unions.ensures.station in
    let price = c.minute_cost-cost.ensures.cost
    ∙ ap (λ (g : Grid). minute_cost g.station (cost_at g.rows) (length g.rows) c.args.self.now.second c.loop-m.m c.over-union.result) c.columns-columns.ensures.columns in
    record {
      spent = minute_more grid c.args.self.now.announced c.args.self.now.second c.args.self.now.lo c.args.self.now.hi c.loop-m.m c.loop-m.cost c.over-union.result c.minute_cost-cost.result c.loop-m.invariant.spent
          (λ s lt. subst (λ (st : Station). IsUnionOver st c.args.self.now.announced (c.args.self.now.lo + c.loop-m.m) (c.args.self.now.hi + c.loop-m.m) s (get_or c.over-union.result s 0)) station_is (c.over-union.ensures s lt))
          price;
    }

pub returns-clause-cost : goal.returns-clause-cost
returns-clause-cost c =
    all_minutes c.args.self.now.station.now.grid c.args.self.now.announced c.args.self.now.second c.args.self.now.lo c.args.self.now.hi c.loop-m.m c.loop-m.cost c.args.self.now.in_a_minute
    (omega (arith, c.later_minutes-reach.ensures.count)) c.loop-m.invariant.spent

pub returns-clause-bound : goal.returns-clause-bound
returns-clause-bound c =
    bounded c.args.self.now.station.now.grid c.args.self.now.announced c.args.self.now.second c.args.self.now.lo c.args.self.now.hi c.loop-m.m c.loop-m.cost c.columns-columns.ensures.small c.loop-m.invariant.spent
