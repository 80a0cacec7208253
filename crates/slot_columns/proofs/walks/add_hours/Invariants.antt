use Rattle.std.proofs.Common.{◌≡◌, ◌+◌, ◌%◌, ◌<◌, ◌≤◌, ℕ, length, get_or}
use Rattle.definitions.specs.time.Calendar.{minutes_per_day}
use Rattle.slot_columns.specs.declared.limits.TheConstants.{HOUR_MINUTES}
use Rattle.slot_columns.proofs.walks.add_hours.Given as goal

abbrev pub invariant-loop-u : goal.invariant-loop-u
invariant-loop-u l = record {
  long : length l.costs ≡ minutes_per_day;
  done : (u : ℕ) → u < l.u → get_or l.costs u 0 ≡ get_or l.fn.costs u 0 + get_or l.hourly (u % HOUR_MINUTES) 0;
  rest : (u : ℕ) → l.u ≤ u → get_or l.costs u 0 ≡ get_or l.fn.costs u 0;
}
