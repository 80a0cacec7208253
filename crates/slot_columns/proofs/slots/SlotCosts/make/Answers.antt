use Rattle.std.proofs.Common.{◌≡◌, ◌*◌, ◌<◌, ◌≤◌, ℕ, List, length, sym, subst, ap, ◌∙◌}
use Rattle.signal_base.specs.declared.station.Station.{Station}
use Rattle.definitions.specs.heard.Costs.{set_cost}
use Rattle.symbol_cost.specs.Grid.{Grid, HasCosts, cost_at}
use Rattle.symbol_cost.specs.declared.limits.TheConstants.{RECEIVER_COST}
use Rattle.slot_columns.specs.declared.limits.TheConstants.{SETS}
use Rattle.slot_columns.specs.Parts.{entry}
use Rattle.slot_columns.specs.Rows.{cost_in_slot, grid_of}
use Rattle.slot_columns.proofs.SetLaws.{own_bound, own_costs, same_costs}
use Rattle.slot_columns.proofs.slots.SlotCosts.make.Goals as goal

-- the costs of the grid are those of its station
of_station : (grid : Grid) (station : Station) (rows : List (List ℕ)) → station ≡ grid.station
    → ((k set : ℕ) → k < length rows → set < SETS → entry rows k set ≡ cost_in_slot grid set k)
    → (k set : ℕ) → k < length rows → set < SETS → entry rows k set ≡ set_cost station (cost_at grid.rows k) set
of_station grid station rows same are k set within small =
    are k set within small ∙ ap (λ (s : Station). set_cost s (cost_at grid.rows k) set) (sym same)

pub returns-clause-bounded : goal.returns-clause-bounded
returns-clause-bounded c =
    let made = c.in_ok-rows.ensures in
    let rows = c.in_ok-rows.rows.items in
    let grid = c.args.grid.now in
    own_bound c.station-station.result c.receivers-receivers.result rows (cost_at grid.rows)
    (of_station grid c.station-station.result rows c.station-station.ensures made.costs) c.receivers-receivers.ensures.bound made.short
    (subst (λ (n : ℕ). (k set : ℕ) → k < length rows → set < SETS → entry rows k set ≤ n * RECEIVER_COST) (sym c.receivers-receivers.ensures.count) made.small)

pub invariant_of-result : goal.invariant_of-result
invariant_of-result c =
    let rows = c.in_ok-rows.rows.items in
    let grid = c.args.grid.now in
    record {
      bounded = returns-clause-bounded c;
      each = own_costs c.station-station.result c.receivers-receivers.result rows (cost_at grid.rows)
          (of_station grid c.station-station.result rows c.station-station.ensures c.in_ok-rows.ensures.costs);
    }

pub returns-clause-costs : goal.returns-clause-costs
returns-clause-costs c =
    let rows = c.in_ok-rows.rows.items in
    let grid = c.args.grid.now in
    subst (λ (s : Station). HasCosts (grid_of c.station-station.result c.receivers-receivers.result rows) s (length grid.rows) (cost_at grid.rows)) c.station-station.ensures
    (same_costs c.station-station.result c.receivers-receivers.result rows (cost_at grid.rows)
    (of_station grid c.station-station.result rows c.station-station.ensures c.in_ok-rows.ensures.costs) (length grid.rows) c.in_ok-rows.ensures.count)
