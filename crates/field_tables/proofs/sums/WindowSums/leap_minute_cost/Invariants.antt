use Rattle.std.proofs.Common.{◌≡◌, sum_by, take}
use Rattle.definitions.specs.answers.Blocks.{first_of}
use Rattle.definitions.specs.heard.Costs.{station_cost}
use Rattle.symbol_cost.specs.Grid.{Grid, cost_at}
use Rattle.field_tables.specs.Sums.{grids_of}
use Rattle.field_tables.proofs.SumLaws.{IsWithin}
use Rattle.field_tables.proofs.sums.WindowSums.leap_minute_cost.Given as goal

abbrev pub invariant-loop-station : goal.invariant-loop-station
invariant-loop-station l = record {
  cost : l.total ≡ sum_by (λ (g : Grid). station_cost g.station (cost_at g.rows) l.self.window.seconds (first_of l.minute)) (take l.station-index (grids_of l.self.stations));
  bound : IsWithin l.self l.station-index l.total;
}
