use Rattle.std.proofs.Common.{◌-◌, ◌<◌, ◌≤◌}
use Rattle.slot_columns.specs.Parts.{most_cost}
use Rattle.field_tables.specs.Floors.{CostAtLeast}
use Rattle.field_tables.proofs.station.StationSums.floor_by_pieces.Given as goal

abbrev pub invariant-loop-t : goal.invariant-loop-t
invariant-loop-t l = record {
  begun : l.block.lo ≤ l.t;
  none_less : CostAtLeast l.self l.block l.block.lo l.t l.floor;
  small : l.block.lo < l.t → l.floor ≤ most_cost l.self.grid;
}

abbrev pub decreases-loop-t : goal.decreases-loop-t
decreases-loop-t l = l.block.hi - l.t
