use Rattle.std.proofs.Common.{◌≡◌, ◌*◌, ◌+◌, ◌/◌, ◌<◌, ◌≤◌, ℕ, false}
use Rattle.definitions.specs.time.Calendar.{is_leap_end}
use Rattle.field_tables.proofs.leaps.meets_leap_end.Given as goal

abbrev pub invariant-loop-i : goal.invariant-loop-i
invariant-loop-i l = (d : ℕ) → l.days + l.lo / 1440 ≤ d + l.i → d < l.days → is_leap_end (d * 1440 + 1439) ≡ false
