use Rattle.std.proofs.Common.{◌≡◌, ◌<◌, ℕ, sum_by, take}
use Rattle.signal_base.specs.declared.station.Station.{Station}
use Rattle.definitions.specs.heard.Costs.{set_cost, sum_below}
use Rattle.definitions.specs.answers.Blocks.{HasWalk}
use Rattle.symbol_cost.specs.Grid.{Grid, cost_at}
use Rattle.plain_costs.specs.Unions.{AreUnions}
use Rattle.field_tables.specs.Sums.{grids_of}
use Rattle.field_tables.proofs.SumLaws.{IsWithin}
use Rattle.field_tables.proofs.sums.WindowSums.leap_bound.Given as goal

abbrev pub invariant-loop-station : goal.invariant-loop-station
invariant-loop-station l = record {
  cost : (unions : Station → ℕ → ℕ) → AreUnions l.self.window l.block unions
      → l.total ≡ sum_by (λ (g : Grid). sum_below l.self.window.seconds (λ k. set_cost g.station (cost_at g.rows k) (unions g.station k))) (take l.station-index (grids_of l.self.stations));
  bound : IsWithin l.self l.station-index l.total;
  walk : 0 < l.station-index → HasWalk l.self.window l.block;
}
