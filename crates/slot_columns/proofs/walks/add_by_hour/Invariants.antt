use Rattle.std.proofs.Common.{◌≡◌, ◌+◌, ◌*◌, ◌/◌, ◌<◌, ◌≤◌, ℕ, length, get_or}
use Rattle.definitions.specs.time.Calendar.{minutes_per_day}
use Rattle.slot_columns.specs.declared.limits.TheConstants.{HOUR_MINUTES}
use Rattle.slot_columns.proofs.walks.add_by_hour.Given as goal

abbrev pub invariant-loop-h : goal.invariant-loop-h
invariant-loop-h l = record {
  long : length l.costs ≡ minutes_per_day;
  done : (u : ℕ) → u < minutes_per_day → u + l.m < HOUR_MINUTES * l.h → get_or l.costs u 0 ≡ get_or l.fn.costs u 0 + get_or l.by_hour ((u + l.m) / HOUR_MINUTES) 0;
  rest : (u : ℕ) → HOUR_MINUTES * l.h ≤ u + l.m → get_or l.costs u 0 ≡ get_or l.fn.costs u 0;
}
