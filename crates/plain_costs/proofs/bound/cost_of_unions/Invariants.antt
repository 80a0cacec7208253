use Rattle.std.proofs.Common.{◌≡◌, ◌*◌, ◌≤◌, ℕ, sum_by, take}
use Rattle.signal_base.specs.declared.station.Station.{Station}
use Rattle.definitions.specs.heard.Costs.{set_cost, sum_below}
use Rattle.symbol_cost.specs.Grid.{Grid, cost_at}
use Rattle.symbol_cost.specs.declared.limits.TheConstants.{RECEIVER_COST}
use Rattle.plain_costs.specs.Unions.{AreUnions}
use Rattle.plain_costs.proofs.bound.cost_of_unions.Given as goal

abbrev pub invariant-loop-grid : goal.invariant-loop-grid
invariant-loop-grid l = record {
  cost : (unions : Station → ℕ → ℕ) → AreUnions l.window l.block unions
      → l.total ≡ sum_by (λ (g : Grid). sum_below l.window.seconds (λ k. set_cost g.station (cost_at g.rows k) (unions g.station k))) (take l.grid-index l.grids);
  bound : l.total ≤ l.window.seconds * (sum_by (λ (g : Grid). g.receivers) (take l.grid-index l.grids) * RECEIVER_COST);
}
