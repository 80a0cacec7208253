use Rattle.std.proofs.Common.{ℕ, ◌<◌, ◌≤◌, sum_by, take}
use Rattle.definitions.specs.heard.Costs.{station_cost}
use Rattle.symbol_cost.specs.Grid.{Grid, cost_at}
use Rattle.field_tables.specs.Minutes.{sequence_at}
use Rattle.field_tables.specs.Sums.{grids_of}
use Rattle.field_tables.proofs.SumLaws.{IsWithin}
use Rattle.field_tables.proofs.sums.WindowSums.floor_together.Given as goal

abbrev pub invariant-loop-station : goal.invariant-loop-station
invariant-loop-station l = record {
  none_less : (t0 : ℕ) → l.lo ≤ t0 → t0 < l.hi
      → l.all ≤ sum_by (λ (g : Grid). station_cost g.station (cost_at g.rows) l.self.window.seconds (sequence_at l.block t0)) (take l.station-index (grids_of l.self.stations));
  bound : IsWithin l.self l.station-index l.all;
}
