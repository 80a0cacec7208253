use Rattle.std.proofs.Common.{◌-◌, ◌≤◌, Some}
use Rattle.signal_base.specs.declared.limits.TheConstants.{GREATEST_COST}
use Rattle.field_tables.specs.Floors.{IsFloor, piece}
use Rattle.field_tables.specs.Sums.{costs_by}
use Rattle.field_tables.proofs.sums.WindowSums.floor_from.Given as goal

abbrev pub invariant-loop-t : goal.invariant-loop-t
invariant-loop-t l = record {
  begun : l.cut ≤ l.t;
  within : l.t ≤ l.block.hi;
  floor : IsFloor (costs_by l.self) l.self.window (piece l.block l.cut l.t) (Some l.least);
  small : l.least ≤ GREATEST_COST;
}

abbrev pub decreases-loop-t : goal.decreases-loop-t
decreases-loop-t l = l.block.hi - l.t
