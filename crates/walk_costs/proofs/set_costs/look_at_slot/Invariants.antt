use Rattle.std.proofs.Common.{◌*◌, ◌<◌, ◌≤◌, ℕ}
use Rattle.definitions.specs.heard.Costs.{set_cost}
use Rattle.symbol_cost.specs.Grid.{cost_at}
use Rattle.symbol_cost.specs.declared.limits.TheConstants.{RECEIVER_COST}
use Rattle.walk_costs.proofs.set_costs.look_at_slot.Given as goal

abbrev pub invariant-loop-set : goal.invariant-loop-set
invariant-loop-set l = (set : ℕ) → set < l.set → set_cost l.columns.station (cost_at l.columns.rows l.slot) set ≤ l.columns.receivers * RECEIVER_COST
