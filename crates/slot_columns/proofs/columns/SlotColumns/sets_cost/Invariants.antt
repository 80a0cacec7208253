use Rattle.std.proofs.Common.{◌≡◌, ◌*◌, ◌≤◌, slice_index}
use Rattle.definitions.specs.heard.Costs.{set_cost, sum_below}
use Rattle.symbol_cost.specs.Grid.{cost_at}
use Rattle.symbol_cost.specs.declared.limits.TheConstants.{RECEIVER_COST}
use Rattle.slot_columns.proofs.columns.SlotColumns.sets_cost.Given as goal

abbrev pub invariant-loop-i : goal.invariant-loop-i
invariant-loop-i l = record {
  cost : l.cost ≡ sum_below (4 * l.i) (λ k. set_cost l.self.station (cost_at l.self.rows k) (slice_index l.sets k));
  bound : l.cost ≤ 4 * l.i * (l.self.receivers * RECEIVER_COST);
}

abbrev pub invariant-loop-slot : goal.invariant-loop-slot
invariant-loop-slot l = record {
  cost : l.cost ≡ sum_below l.slot (λ k. set_cost l.self.station (cost_at l.self.rows k) (slice_index l.sets k));
  bound : l.cost ≤ l.slot * (l.self.receivers * RECEIVER_COST);
}
