use Rattle.std.proofs.Common.{◌-◌, ◌<◌, ◌≤◌}
use Rattle.minute_parts.specs.Runs.{Covers, Points, days_before, first_of, last_of}
use Rattle.minute_parts.proofs.runs.runs_of.Given as goal

abbrev pub invariant-loop-t : goal.invariant-loop-t
invariant-loop-t l = record {
  within : l.t ≤ l.end;
  covered : Covers l.station l.runs.items l.date l.t;
  begun : first_of l.runs.items (last_of l.runs.items) < l.end;
  days : Points l.days.items l.runs.items (days_before l.t);
}

abbrev pub decreases-loop-t : goal.decreases-loop-t
decreases-loop-t l = l.end - l.t
