use Rattle.std.proofs.Common.{◌≡◌, ◌%◌, ◌<◌, ℕ, false, true, [], length, get_or}
use Rattle.definitions.specs.time.Calendar.{minutes_per_day}
use Rattle.slot_columns.specs.Days.{hour_begin}
use Rattle.slot_columns.specs.declared.limits.TheConstants.{HOUR_MINUTES, REACHED_MINUTES, SECONDS_PER_MINUTE, SETS}
use Rattle.slot_columns.specs.Parts.{entry}
use Rattle.slot_columns.specs.Rows.{index_of}
use Rattle.slot_columns.proofs.day_columns.Day.make.Given as goal

abbrev pub invariant-loop-s : goal.invariant-loop-s
invariant-loop-s l = record {
  long : length l.used ≡ SECONDS_PER_MINUTE;
  wide : length l.hourly ≡ SECONDS_PER_MINUTE;
  broad : length l.steady ≡ SECONDS_PER_MINUTE;
  count : length l.columns.items ≡ l.s;
  sets : (s i : ℕ) → s < l.s → i < REACHED_MINUTES → entry l.columns.items s i ≡ index_of (get_or (get_or l.times (i % minutes_per_day) []) s 0);
  bound : (s i : ℕ) → s < l.s → i < REACHED_MINUTES → entry l.columns.items s i < SETS;
  unused : (s i : ℕ) → s < l.s → get_or l.used s false ≡ false → i < REACHED_MINUTES → entry l.columns.items s i ≡ 0;
  repeats : (s i : ℕ) → s < l.s → get_or l.hourly s false ≡ true → i < REACHED_MINUTES → entry l.columns.items s i ≡ entry l.columns.items s (i % HOUR_MINUTES);
  stays : (s i : ℕ) → s < l.s → get_or l.steady s false ≡ true → i < REACHED_MINUTES → entry l.columns.items s i ≡ entry l.columns.items s (hour_begin i);
}
