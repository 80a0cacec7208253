use Rattle.std.proofs.Common.{◌≡◌, ◌<◌, ◌≤◌}
use Rattle.definitions.specs.time.Calendar.{century_minutes}
use Rattle.definitions.specs.sequences.Walks.{place_at}
use Rattle.sequence.proofs.walks.at.Given as goal

abbrev pub invariant-loop : goal.invariant-loop
invariant-loop l = record {
  here : l.place ≡ place_at l.q l.counter;
  century : l.place.0 < century_minutes;
  second : l.place.1 ≤ 60;
}
