use Rattle.std.proofs.Common.{◌≡◌, ◌*◌, ◌<◌, ◌≤◌, ℕ, length, get_or}
use Rattle.symbol_cost.specs.declared.limits.TheConstants.{RECEIVER_COST}
use Rattle.slot_columns.specs.declared.limits.TheConstants.{SETS}
use Rattle.slot_columns.specs.Rows.{cost_in_slot}
use Rattle.slot_columns.proofs.slots.row_of.Given as goal

abbrev pub invariant-loop-set : goal.invariant-loop-set
invariant-loop-set l = record {
  long : length l.row ≡ SETS;
  costs : (set : ℕ) → set < l.set → get_or l.row set 0 ≡ cost_in_slot l.grid set l.slot;
  small : (set : ℕ) → set < l.set → get_or l.row set 0 ≤ l.grid.receivers * RECEIVER_COST;
}
