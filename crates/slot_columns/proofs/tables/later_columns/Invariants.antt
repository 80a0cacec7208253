use Rattle.std.proofs.Common.{◌≡◌, ◌/◌, ◌%◌, ◌<◌, ℕ, length}
use Rattle.slot_columns.specs.declared.limits.TheConstants.{SECONDS_PER_MINUTE, SETS}
use Rattle.slot_columns.specs.Parts.{entry}
use Rattle.slot_columns.specs.Tables.{in_later}
use Rattle.slot_columns.proofs.tables.later_columns.Given as goal

abbrev pub invariant-loop-i : goal.invariant-loop-i
invariant-loop-i l = record {
  count : length l.columns.items ≡ l.i;
  each : (i set : ℕ) → i < l.i → set < SETS → entry l.columns.items i set ≡ in_later l.slots (i / SECONDS_PER_MINUTE) (i % SECONDS_PER_MINUTE) set;
}
