use Rattle.std.proofs.Common.{◌≤◌, Some}
use Rattle.signal_base.specs.declared.limits.TheConstants.{GREATEST_COST}
use Rattle.field_tables.specs.Floors.{IsFloor, piece}
use Rattle.field_tables.specs.Sums.{costs_by}
use Rattle.field_tables.proofs.sums.WindowSums.floor_of_few.Given as goal

abbrev pub invariant-loop-t : goal.invariant-loop-t
invariant-loop-t l = record {
  floor : IsFloor (costs_by l.self) l.self.window (piece l.block l.lo l.t) (Some l.least);
  small : l.least ≤ GREATEST_COST;
}
