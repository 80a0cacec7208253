use Rattle.std.proofs.Common.{◌≡◌, ◌%◌, ◌<◌, ℕ, [], length, get_or}
use Rattle.definitions.specs.time.Calendar.{minutes_per_day}
use Rattle.slot_columns.specs.declared.limits.TheConstants.{REACHED_MINUTES, SETS}
use Rattle.slot_columns.specs.Rows.{index_of}
use Rattle.slot_columns.proofs.day_columns.column_of.Given as goal

abbrev pub invariant-loop-i : goal.invariant-loop-i
invariant-loop-i l = record {
  long : length l.column ≡ REACHED_MINUTES;
  sets : (i : ℕ) → i < l.i → get_or l.column i 0 ≡ index_of (get_or (get_or l.times (i % minutes_per_day) []) l.s 0);
  bound : (i : ℕ) → i < l.i → get_or l.column i 0 < SETS;
}
