use Rattle.std.proofs.Common.{◌≡◌, ◌+◌, slice_index, sum_by, take, get_or, ◌∙◌, ap, sym, arith}
use Rattle.std.proofs.lemmas.List.Sums.{sum_by_more}
use Rattle.std.proofs.lemmas.List.{take_all}
use Rattle.signal_base.specs.declared.station.Station.{Station}
use Rattle.definitions.specs.heard.Costs.{set_cost, sum_below}
use Rattle.definitions.proofs.BoundLaws.{unions_one}
use Rattle.definitions.proofs.CostLaws.{sum_below_same}
use Rattle.symbol_cost.specs.Grid.{Grid, cost_at}
use Rattle.plain_costs.proofs.GridLaws.{heard_station, sum_by_station}
use Rattle.plain_costs.proofs.WalkLaws.{more_receivers}
use Rattle.plain_costs.proofs.bound.cost_of_unions.Goals as goal

pub unions_of-sets-requires-clause-heard : goal.unions_of-sets-requires-clause-heard
unions_of-sets-requires-clause-heard c =
    heard_station c.args.window.now c.args.grids.now c.requires.grids c.loop-grid.grid-index c.grid-item.result c.station.result c.loop-grid-test.true c.grid-item.is c.station.ensures

pub loop-grid-preserved : goal.loop-grid-preserved
loop-grid-preserved c =
    let window = c.args.window.now in
    let b = c.args.block.now in
    let grids = c.args.grids.now in
    let n = window.seconds in
    let i = c.loop-grid.grid-index in
    let g = c.grid-item.result in
    let station = c.station.result in
    let heard = heard_station window grids c.requires.grids i g station c.loop-grid-test.true c.grid-item.is c.station.ensures in
    let receivers = λ (h : Grid). h.receivers in
    let counts = sum_by_more receivers grids i g c.loop-grid-test.true in
    record {
      cost = λ unions are.
          let price = λ (h : Grid). sum_below n (λ k. set_cost h.station (cost_at h.rows k) (unions h.station k)) in
          let same = sum_below_same n (λ k. set_cost g.station (cost_at g.rows k) (slice_index c.unions_of-sets.result k)) (λ k. set_cost g.station (cost_at g.rows k) (unions g.station k))
          (λ k lt.
          let one = unions_one window b station k (slice_index c.unions_of-sets.result k) (unions station k) (c.unions_of-sets.ensures k lt) (are station k heard lt) in
          ap (set_cost g.station (cost_at g.rows k)) (one ∙ ap (λ (s : Station). unions s k) c.station.ensures)) in
          let here : c.cost_of_sets-total.result ≡ price (get_or grids i g) = c.cost_of_sets-total.ensures.cost ∙ same ∙ ap price c.grid-item.is in
          omega (arith, sum_by_more price grids i g c.loop-grid-test.true, here, c.loop-grid.invariant.cost unions are);
      bound = more_receivers n (sum_by receivers (take i grids)) g.receivers _ _ _ (counts ∙ ap (λ r. sum_by receivers (take i grids) + r) (sym (ap receivers c.grid-item.is)))
          c.loop-grid.invariant.bound c.cost_of_sets-total.ensures.bound;
    }

pub returns-clause-cost : goal.returns-clause-cost
returns-clause-cost c = λ unions are.
    let window = c.args.window.now in
    let grids = c.args.grids.now in
    let n = window.seconds in
    c.loop-grid.invariant.cost unions are
    ∙ ap (sum_by (λ (g : Grid). sum_below n (λ k. set_cost g.station (cost_at g.rows k) (unions g.station k)))) (take_all c.loop-grid.grid-index grids c.loop-grid-test.false)
    ∙ sum_by_station window grids c.requires.grids (λ station costs. sum_below n (λ k. set_cost station (costs k) (unions station k)))
