use Rattle.std.proofs.Common.{◌+◌, ◌<◌, ◌≤◌, List, length, get_or, sym, ap, ◌∙◌, subst, arith}
use Rattle.definitions.specs.answers.Blocks.{first_of}
use Rattle.definitions.specs.heard.Costs.{station_cost}
use Rattle.symbol_cost.specs.Grid.{Grid, cost_at}
use Rattle.slot_columns.specs.Parts.{most_cost}
use Rattle.minute_parts.specs.Unions.{AreRegular}
use Rattle.minute_parts.specs.Walks.{later_minutes}
use Rattle.walk_costs.specs.Walks.{PricedParts, cost_of}
use Rattle.field_tables.specs.Sums.{AreSums, Sums}
use Rattle.field_tables.proofs.MinuteLaws.{first_regular}
use Rattle.field_tables.proofs.SumLaws.{next, next_within, regular, slots, small, whole}
use Rattle.field_tables.proofs.sums.WindowSums.minute_cost.Goals as goal

pub invariant_of-one-clause-regular : goal.invariant_of-one-clause-regular
invariant_of-one-clause-regular c =
    let sums = c.args.self.now in
    let are = subst AreSums c.self.view_is c.self.invariant.0 in
    let all = c.deref-station-items.ensures.value ∙ ap (λ (s : Sums). s.stations) c.self.view_is in
    let b = c.args.minute.now in
    let i = c.loop-station.station-index in
    let w = c.station-item.result in
    let lt = subst (λ (ws : List PricedParts). i < length ws) all c.loop-station-test.true in
    let is = c.station-item.is ∙ ap (λ (ws : List PricedParts). get_or ws i w) all in
    subst (λ (v : PricedParts). AreRegular b.announced b.lo (b.lo + 1 + later_minutes (length v.grid.rows) b.second) v.parts.end) (sym c.walks.ensures)
    (regular sums are i w lt is b.announced b.second b.lo (b.lo + 1) (first_regular sums b c.requires.some c.requires.walks c.requires.encoded))

pub overflow_add-total : goal.overflow_add-total
overflow_add-total c =
    let are = subst AreSums c.self.view_is c.self.invariant.0 in
    let all = c.deref-station-items.ensures.value ∙ ap (λ (s : Sums). s.stations) c.self.view_is in
    let i = c.loop-station.station-index in
    let w = c.station-item.result in
    let lt = subst (λ (ws : List PricedParts). i < length ws) all c.loop-station-test.true in
    let is = c.station-item.is ∙ ap (λ (ws : List PricedParts). get_or ws i w) all in
    let most = subst (λ (v : PricedParts). c.first_cost-total.result ≤ most_cost v.grid) c.walks.ensures c.first_cost-total.ensures.bound in
    omega (arith, small c.args.self.now are _ _ (next_within c.args.self.now are i w lt is c.loop-station.total c.first_cost-total.result c.loop-station.invariant.bound most))

pub loop-station-preserved : goal.loop-station-preserved
loop-station-preserved c =
    let sums = c.args.self.now in
    let are = subst AreSums c.self.view_is c.self.invariant.0 in
    let all = c.deref-station-items.ensures.value ∙ ap (λ (s : Sums). s.stations) c.self.view_is in
    let b = c.args.minute.now in
    let q = first_of b in
    let i = c.loop-station.station-index in
    let w = c.station-item.result in
    let lt = subst (λ (ws : List PricedParts). i < length ws) all c.loop-station-test.true in
    let is = c.station-item.is ∙ ap (λ (ws : List PricedParts). get_or ws i w) all in
    let here = c.first_cost-total.ensures.cost ∙ ap (λ (v : PricedParts). cost_of v b.announced b.second b.lo) c.walks.ensures
    ∙ ap (λ n. station_cost w.grid.station (cost_at w.grid.rows) n q) (slots sums are i w lt is) in
    let most = subst (λ (v : PricedParts). c.first_cost-total.result ≤ most_cost v.grid) c.walks.ensures c.first_cost-total.ensures.bound in
    record {
      cost = next sums are i w lt is (λ (g : Grid). station_cost g.station (cost_at g.rows) sums.window.seconds q) _ _ c.loop-station.invariant.cost here;
      bound = next_within sums are i w lt is c.loop-station.total c.first_cost-total.result c.loop-station.invariant.bound most;
    }

pub returns-clause-cost : goal.returns-clause-cost
returns-clause-cost c =
    let sums = c.args.self.now in
    let are = subst AreSums c.self.view_is c.self.invariant.0 in
    let all = c.deref-station-items.ensures.value ∙ ap (λ (s : Sums). s.stations) c.self.view_is in
    let past = subst (λ (ws : List PricedParts). length ws ≤ c.loop-station.station-index) all c.loop-station-test.false in
    whole sums are (λ station costs. station_cost station costs sums.window.seconds (first_of c.args.minute.now)) _ _ past c.loop-station.invariant.cost

pub returns-clause-small : goal.returns-clause-small
returns-clause-small c = small c.args.self.now (subst AreSums c.self.view_is c.self.invariant.0) _ _ c.loop-station.invariant.bound
