use Rattle.std.proofs.Common.{◌≡◌, ◌*◌, ◌≤◌, length}
use Rattle.definitions.specs.sequences.Walks.{place_at}
use Rattle.symbol_cost.specs.Grid.{cost_at}
use Rattle.symbol_cost.specs.declared.limits.TheConstants.{RECEIVER_COST}
use Rattle.plain_costs.specs.declared.tenths.TheConstants.{MOST_VALUES}
use Rattle.plain_costs.specs.WalkCosts.{IsSmall, IsWalkCost}
use Rattle.plain_costs.proofs.walk.walk_cost.Given as goal

abbrev pub invariant-loop-slot : goal.invariant-loop-slot
invariant-loop-slot l = record {
  here : l.place ≡ place_at l.q l.slot;
  second : l.place.1 ≤ 60;
  long : length l.told ≡ MOST_VALUES;
  cost : IsWalkCost l.station (cost_at l.grid.rows) l.slot l.q (record { all = l.all; outside = l.outside; told = l.told; one_day = l.one_day });
  small : IsSmall (l.slot * (l.grid.receivers * RECEIVER_COST)) (record { all = l.all; outside = l.outside; told = l.told; one_day = l.one_day });
}
