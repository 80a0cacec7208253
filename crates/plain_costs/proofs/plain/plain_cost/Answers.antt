use Rattle.std.proofs.Common.{length, ◌≡◌, ◌+◌, sum_by, take, get_or, ◌∙◌, ap, sym, arith}
use Rattle.std.proofs.lemmas.List.Sums.{sum_by_more}
use Rattle.std.proofs.lemmas.List.{take_all}
use Rattle.signal_base.specs.declared.station.Station.{Station}
use Rattle.definitions.specs.heard.Costs.{station_cost}
use Rattle.symbol_cost.specs.Grid.{Grid, cost_at}
use Rattle.plain_costs.proofs.GridLaws.{heard_station, sum_by_station}
use Rattle.plain_costs.proofs.WalkLaws.{more_receivers}
use Rattle.plain_costs.proofs.plain.plain_cost.Goals as goal

pub station_cost-total-requires : goal.station_cost-total-requires
station_cost-total-requires c =
    let window = c.args.window.now in
    let grids = c.args.grids.now in
    let i = c.loop-grid.grid-index in
    let g = c.grid-item.result in
    record {
      of_station = sym c.station.ensures;
      heard = heard_station window grids c.requires.grids i g c.station.result c.loop-grid-test.true c.grid-item.is c.station.ensures;
      slots = ap (λ (h : Grid). length h.rows) c.grid-item.is ∙ c.requires.grids.slots i g c.loop-grid-test.true;
      seconds = c.requires.window.not_long;
      sequence = c.requires.sequence;
      walkable = c.requires.walkable;
    }

pub loop-grid-preserved : goal.loop-grid-preserved
loop-grid-preserved c =
    let grids = c.args.grids.now in
    let n = c.args.window.now.seconds in
    let q = c.args.q.now in
    let i = c.loop-grid.grid-index in
    let g = c.grid-item.result in
    let price = λ (h : Grid). station_cost h.station (cost_at h.rows) n q in
    let receivers = λ (h : Grid). h.receivers in
    let here : c.station_cost-total.result ≡ price (get_or grids i g) =
    c.station_cost-total.ensures.cost ∙ ap (λ (s : Station). station_cost s (cost_at g.rows) n q) c.station.ensures ∙ ap price c.grid-item.is in
    let count : g.receivers ≡ receivers (get_or grids i g) = ap receivers c.grid-item.is in
    let costs = sum_by_more price grids i g c.loop-grid-test.true in
    let counts = sum_by_more receivers grids i g c.loop-grid-test.true in
    record {
      cost = omega (arith, costs, here, c.loop-grid.invariant.cost);
      bound = more_receivers n (sum_by receivers (take i grids)) g.receivers _ _ _ (counts ∙ ap (λ r. sum_by receivers (take i grids) + r) (sym count)) c.loop-grid.invariant.bound c.station_cost-total.ensures.bound;
    }

pub returns-clause-cost : goal.returns-clause-cost
returns-clause-cost c =
    let window = c.args.window.now in
    let grids = c.args.grids.now in
    let n = window.seconds in
    let q = c.args.q.now in
    c.loop-grid.invariant.cost
    ∙ ap (sum_by (λ (g : Grid). station_cost g.station (cost_at g.rows) n q)) (take_all c.loop-grid.grid-index grids c.loop-grid-test.false)
    ∙ sum_by_station window grids c.requires.grids (λ station costs. station_cost station costs n q)
