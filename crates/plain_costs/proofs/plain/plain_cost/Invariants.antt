use Rattle.std.proofs.Common.{◌≡◌, ◌*◌, ◌≤◌, sum_by, take}
use Rattle.definitions.specs.heard.Costs.{station_cost}
use Rattle.symbol_cost.specs.Grid.{Grid, cost_at}
use Rattle.symbol_cost.specs.declared.limits.TheConstants.{RECEIVER_COST}
use Rattle.plain_costs.proofs.plain.plain_cost.Given as goal

abbrev pub invariant-loop-grid : goal.invariant-loop-grid
invariant-loop-grid l = record {
  cost : l.total ≡ sum_by (λ (g : Grid). station_cost g.station (cost_at g.rows) l.window.seconds l.q) (take l.grid-index l.grids);
  bound : l.total ≤ l.window.seconds * (sum_by (λ (g : Grid). g.receivers) (take l.grid-index l.grids) * RECEIVER_COST);
}
