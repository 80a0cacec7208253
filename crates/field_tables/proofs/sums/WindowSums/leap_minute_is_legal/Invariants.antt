use Rattle.std.proofs.Common.{◌≡◌, ◌↔◌, true}
use Rattle.definitions.specs.answers.Blocks.{first_of}
use Rattle.field_tables.proofs.LeapLaws.{SomeShows}
use Rattle.field_tables.proofs.sums.WindowSums.leap_minute_is_legal.Given as goal

abbrev pub invariant-loop-station : goal.invariant-loop-station
invariant-loop-station l = record {
  shown : l.legal ≡ true ↔ SomeShows l.self (first_of l.minute) l.station-index;
}
