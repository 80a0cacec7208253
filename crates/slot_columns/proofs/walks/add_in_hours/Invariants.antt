use Rattle.std.proofs.Common.{◌≡◌, ◌+◌, ◌*◌, ◌<◌, ◌≤◌, ℕ, length, get_or}
use Rattle.slot_columns.specs.declared.limits.TheConstants.{HOUR_MINUTES, REACHED_HOURS}
use Rattle.slot_columns.proofs.walks.add_in_hours.Given as goal

abbrev pub invariant-loop-h : goal.invariant-loop-h
invariant-loop-h l = record {
  long : length l.costs ≡ REACHED_HOURS;
  done : (h : ℕ) → h < l.h → get_or l.costs h 0 ≡ get_or l.fn.costs h 0 + get_or l.row (get_or l.column (HOUR_MINUTES * h) 0) 0;
  rest : (h : ℕ) → l.h ≤ h → get_or l.costs h 0 ≡ get_or l.fn.costs h 0;
}
