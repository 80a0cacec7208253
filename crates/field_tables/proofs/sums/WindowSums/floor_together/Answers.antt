use Rattle.std.proofs.Common.{ℕ, ◌<◌, ◌≤◌, List, length, get_or, sum_by, take, refl, sym, ap, ◌∙◌, subst, arith}
use Rattle.signal_base.specs.declared.station.Station.{Station}
use Rattle.definitions.specs.heard.Costs.{station_cost}
use Rattle.symbol_cost.specs.Grid.{Grid, cost_at}
use Rattle.walk_costs.specs.Walks.{PricedParts}
use Rattle.field_tables.specs.Minutes.{sequence_at}
use Rattle.field_tables.specs.Sums.{AreSums, Sums, costs_by, grids_of}
use Rattle.field_tables.proofs.FloorLaws.{floor_by_minutes}
use Rattle.field_tables.proofs.SumLaws.{next_less, next_within, slots, small, whole}
use Rattle.field_tables.proofs.sums.WindowSums.floor_together.Goals as goal

pub overflow_add-all : goal.overflow_add-all
overflow_add-all c =
    let sums = c.args.self.now in
    let are = subst AreSums c.self.view_is c.self.invariant.0 in
    let them = c.deref-station-items.ensures.value ∙ ap (λ (s : Sums). s.stations) c.self.view_is in
    let i = c.loop-station.station-index in
    let w = c.station-item.result in
    let lt = subst (λ (ws : List PricedParts). i < length ws) them c.loop-station-test.true in
    let is = c.station-item.is ∙ ap (λ (ws : List PricedParts). get_or ws i w) them in
    omega (arith, small sums are _ _ (next_within sums are i w lt is c.loop-station.all c.in-Some.floor c.loop-station.invariant.bound c.in-Some.ensures.small))

pub loop-station-preserved : goal.loop-station-preserved
loop-station-preserved c =
    let sums = c.args.self.now in
    let are = subst AreSums c.self.view_is c.self.invariant.0 in
    let them = c.deref-station-items.ensures.value ∙ ap (λ (s : Sums). s.stations) c.self.view_is in
    let i = c.loop-station.station-index in
    let w = c.station-item.result in
    let lt = subst (λ (ws : List PricedParts). i < length ws) them c.loop-station-test.true in
    let is = c.station-item.is ∙ ap (λ (ws : List PricedParts). get_or ws i w) them in
    let b = c.args.block.now in
    record {
      none_less = λ t0 ge before.
          let q = sequence_at b t0 in
          let here = subst (λ n. c.in-Some.floor ≤ station_cost w.grid.station (cost_at w.grid.rows) n q) (slots sums are i w lt is)
          (subst (λ a. c.in-Some.floor ≤ station_cost w.grid.station (cost_at w.grid.rows) (length w.grid.rows) (record { first = t0; second = b.second; announced = a })) (sym c.requires.announced)
          (c.in-Some.ensures.floor t0 ge before)) in
          next_less sums are i w lt is (λ (g : Grid). station_cost g.station (cost_at g.rows) sums.window.seconds q) _ _ (c.loop-station.invariant.none_less t0 ge before) here;
      bound = next_within sums are i w lt is c.loop-station.all c.in-Some.floor c.loop-station.invariant.bound c.in-Some.ensures.small;
    }

pub returns-clause-floor : goal.returns-clause-floor
returns-clause-floor c =
    let sums = c.args.self.now in
    let are = subst AreSums c.self.view_is c.self.invariant.0 in
    let them = c.deref-station-items.ensures.value ∙ ap (λ (s : Sums). s.stations) c.self.view_is in
    let i = c.loop-station.station-index in
    let b = c.args.block.now in
    floor_by_minutes (costs_by sums) sums.window b c.args.lo c.args.hi c.loop-station.all (λ t0 ge lt.
    let q = sequence_at b t0 in
    let past = subst (λ (ws : List PricedParts). length ws ≤ i) them c.loop-station-test.false in
    let cost = λ (station : Station) (costs : ℕ → ℕ → ℕ). station_cost station costs sums.window.seconds q in
    let sum = whole sums are cost i (sum_by (λ (g : Grid). cost g.station (cost_at g.rows)) (take i (grids_of sums.stations))) past refl in
    subst (λ n. c.loop-station.all ≤ n) sum (c.loop-station.invariant.none_less t0 ge lt))

pub returns-clause-small : goal.returns-clause-small
returns-clause-small c = small c.args.self.now (subst AreSums c.self.view_is c.self.invariant.0) _ _ c.loop-station.invariant.bound
