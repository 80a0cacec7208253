-- What the slots so far cost.
use Rattle.std.proofs.Common.{◌≡◌, ◌*◌, ◌≤◌}
use Rattle.definitions.specs.heard.Costs.{dut1_cost}
use Rattle.definitions.specs.sequences.Walks.{place_at}
use Rattle.symbol_cost.specs.Grid.{cost_at}
use Rattle.symbol_cost.specs.declared.limits.TheConstants.{RECEIVER_COST}
use Rattle.plain_costs.specs.Tenths.{tenths_at}
use Rattle.heard.proofs.values.value_cost.Given as goal

abbrev pub invariant-loop-slot : goal.invariant-loop-slot
invariant-loop-slot l = record {
  here : l.place ≡ place_at l.q l.slot;
  second : l.place.1 ≤ 60;
  cost : l.cost ≡ dut1_cost l.grid.station (cost_at l.grid.rows) l.slot l.q (tenths_at l.grid.station l.i);
  bound : l.cost ≤ l.slot * (l.grid.receivers * RECEIVER_COST);
}
