use Rattle.std.proofs.Common.{◌<◌, ◌≤◌, List, length, get_or, ap, ◌∙◌, subst, arith}
use Rattle.definitions.specs.heard.Costs.{station_cost}
use Rattle.symbol_cost.specs.Grid.{Grid, cost_at}
use Rattle.slot_columns.specs.Parts.{most_cost}
use Rattle.walk_costs.specs.Walks.{PricedParts, cost_of}
use Rattle.field_tables.specs.Sums.{AreSums, Sums}
use Rattle.field_tables.proofs.SumLaws.{next, next_within, slots, small, whole}
use Rattle.field_tables.proofs.sums.WindowSums.cost.Goals as goal

pub overflow_add-total : goal.overflow_add-total
overflow_add-total c =
    let are = subst AreSums c.self.view_is c.self.invariant.0 in
    let all = c.deref-station-items.ensures.value ∙ ap (λ (s : Sums). s.stations) c.self.view_is in
    let i = c.loop-station.station-index in
    let w = c.station-item.result in
    let lt = subst (λ (ws : List PricedParts). i < length ws) all c.loop-station-test.true in
    let is = c.station-item.is ∙ ap (λ (ws : List PricedParts). get_or ws i w) all in
    omega (arith, small c.args.self.now are _ _ (next_within c.args.self.now are i w lt is c.loop-station.total c.in-Some.cost c.loop-station.invariant.bound (subst (λ (v : PricedParts). c.in-Some.cost ≤ most_cost v.grid) c.walks-walks.ensures c.in-Some.ensures.bound)))

pub loop-station-preserved : goal.loop-station-preserved
loop-station-preserved c =
    let are = subst AreSums c.self.view_is c.self.invariant.0 in
    let all = c.deref-station-items.ensures.value ∙ ap (λ (s : Sums). s.stations) c.self.view_is in
    let q = c.args.q.now in
    let i = c.loop-station.station-index in
    let w = c.station-item.result in
    let lt = subst (λ (ws : List PricedParts). i < length ws) all c.loop-station-test.true in
    let is = c.station-item.is ∙ ap (λ (ws : List PricedParts). get_or ws i w) all in
    let here = c.in-Some.ensures.cost ∙ ap (λ (v : PricedParts). cost_of v q.announced q.second q.first) c.walks-walks.ensures ∙ ap (λ n. station_cost w.grid.station (cost_at w.grid.rows) n q) (slots c.args.self.now are i w lt is) in
    record {
      cost = next c.args.self.now are i w lt is (λ (g : Grid). station_cost g.station (cost_at g.rows) c.args.self.now.window.seconds q) _ _ c.loop-station.invariant.cost here;
      bound = next_within c.args.self.now are i w lt is c.loop-station.total c.in-Some.cost c.loop-station.invariant.bound (subst (λ (v : PricedParts). c.in-Some.cost ≤ most_cost v.grid) c.walks-walks.ensures c.in-Some.ensures.bound);
    }

pub returns-clause-cost : goal.returns-clause-cost
returns-clause-cost c =
    let are = subst AreSums c.self.view_is c.self.invariant.0 in
    let all = c.deref-station-items.ensures.value ∙ ap (λ (s : Sums). s.stations) c.self.view_is in
    let past = subst (λ (ws : List PricedParts). length ws ≤ c.loop-station.station-index) all c.loop-station-test.false in
    whole c.args.self.now are (λ station costs. station_cost station costs c.args.self.now.window.seconds c.args.q.now) _ _ past c.loop-station.invariant.cost
