use Rattle.std.proofs.Common.{ℕ, ◌<◌, ◌≤◌}
use Rattle.definitions.specs.time.Calendar.{century_minutes}
use Rattle.field_tables.proofs.StationLaws.{AreBefore}
use Rattle.field_tables.proofs.stations.end_of.Given as goal

abbrev pub invariant-loop-station : goal.invariant-loop-station
invariant-loop-station l = record {
  each : (t : ℕ) → t < l.end → AreBefore l.stations l.station-index t;
  before : (t : ℕ) → t < century_minutes → AreBefore l.stations l.station-index t → t < l.end;
  bound : l.end ≤ century_minutes;
}
