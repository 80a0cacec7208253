use Rattle.std.proofs.Common.{◌*◌, ◌<◌, ◌≤◌, ℕ}
use Rattle.definitions.specs.heard.Costs.{set_cost}
use Rattle.symbol_cost.specs.Grid.{cost_at}
use Rattle.symbol_cost.specs.declared.limits.TheConstants.{RECEIVER_COST}
use Rattle.walk_costs.proofs.set_costs.look_at_all.Given as goal

abbrev pub invariant-loop-slot : goal.invariant-loop-slot
invariant-loop-slot l = (k set : ℕ) → k < l.slot → set_cost l.columns.station (cost_at l.columns.rows k) set ≤ l.columns.receivers * RECEIVER_COST
