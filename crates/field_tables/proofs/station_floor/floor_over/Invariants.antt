use Rattle.std.proofs.Common.{◌<◌, ◌≤◌}
use Rattle.slot_columns.specs.Parts.{most_cost}
use Rattle.field_tables.specs.Floors.{CostAtLeast}
use Rattle.field_tables.proofs.station_floor.floor_over.Given as goal

abbrev pub invariant-loop-t0 : goal.invariant-loop-t0
invariant-loop-t0 l = record {
  none_less : CostAtLeast l.walks l.block l.t l.t0 l.least;
  small : l.t < l.t0 → l.least ≤ most_cost l.walks.grid;
}
