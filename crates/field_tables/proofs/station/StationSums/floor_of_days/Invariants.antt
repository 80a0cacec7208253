use Rattle.std.proofs.Common.{◌≡◌, ◌-◌, ◌<◌, ◌≤◌, IfSome}
use Rattle.slot_columns.specs.Parts.{most_cost}
use Rattle.walk_costs.specs.Near.{AreSpanCosts}
use Rattle.field_tables.specs.Floors.{CostAtLeast}
use Rattle.field_tables.proofs.station.StationSums.floor_of_days.Given as goal

abbrev pub invariant-loop-t : goal.invariant-loop-t
invariant-loop-t l = record {
  begun : l.block.lo ≤ l.t;
  none_less : CostAtLeast l.self l.block l.block.lo l.t l.floor;
  small : l.block.lo < l.t → l.floor ≤ most_cost l.self.grid;
  near : IfSome l.near (λ costs. (costs.second ≡ l.block.second) × AreSpanCosts l.self costs);
}

abbrev pub decreases-loop-t : goal.decreases-loop-t
decreases-loop-t l = l.block.hi - l.t
