use Rattle.std.proofs.Common.{ℕ, ◌*◌, ◌≤◌, get_or}
use Rattle.definitions.specs.time.Calendar.{century_days, minutes_per_day}
use Rattle.field_tables.specs.Quiet.{NoneAnnounced}
use Rattle.field_tables.proofs.sums.WindowSums.fill.Given as goal

abbrev pub invariant-loop-day : goal.invariant-loop-day
invariant-loop-day l = record {
  few : l.day ≤ century_days;
  next : NoneAnnounced l.self.window (l.day * minutes_per_day) l.next;
  each : (day : ℕ) → l.day ≤ day → NoneAnnounced l.self.window (day * minutes_per_day) (get_or l.loud day 0);
}

abbrev pub decreases-loop-day : goal.decreases-loop-day
decreases-loop-day l = l.day
