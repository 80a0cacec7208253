use Rattle.std.proofs.Common.{◌-◌, ◌≤◌, IfSome}
use Rattle.signal_base.specs.declared.limits.TheConstants.{GREATEST_COST}
use Rattle.field_tables.specs.Floors.{IsFloor, piece}
use Rattle.field_tables.specs.Scored.{costs_of}
use Rattle.field_tables.proofs.tables.Tables.floor_of_announced_days.Given as goal

abbrev pub invariant-loop-t : goal.invariant-loop-t
invariant-loop-t l = record {
  begun : l.block.lo ≤ l.t;
  within : l.t ≤ l.block.hi;
  floor : IsFloor (costs_of l.self) l.self.window (piece l.block l.block.lo l.t) l.floor;
  small : IfSome l.floor (λ n. n ≤ GREATEST_COST);
}

abbrev pub decreases-loop-t : goal.decreases-loop-t
decreases-loop-t l = l.block.hi - l.t
