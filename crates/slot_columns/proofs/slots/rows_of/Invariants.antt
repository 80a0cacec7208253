use Rattle.std.proofs.Common.{◌≡◌, ◌*◌, ◌<◌, ◌≤◌, ℕ, length}
use Rattle.symbol_cost.specs.declared.limits.TheConstants.{RECEIVER_COST}
use Rattle.slot_columns.specs.declared.limits.TheConstants.{SETS}
use Rattle.slot_columns.specs.Parts.{entry}
use Rattle.slot_columns.specs.Rows.{AreRows}
use Rattle.slot_columns.proofs.slots.rows_of.Given as goal

abbrev pub invariant-loop-slot : goal.invariant-loop-slot
invariant-loop-slot l = record {
  count : length l.rows.items ≡ l.slot;
  costs : AreRows l.rows.items l.grid;
  small : (k set : ℕ) → k < length l.rows.items → set < SETS → entry l.rows.items k set ≤ l.grid.receivers * RECEIVER_COST;
}
