use Rattle.std.proofs.Common.{◌≡◌, ◌+◌, ◌≤◌, drop}
use Rattle.bank.specs.Hearing.{count_before, count_of}
use Rattle.bank.proofs.grids.places_of.Given as goal

abbrev pub invariant-loop-i : goal.invariant-loop-i
invariant-loop-i l = record {
  first : l.first + count_before l.station (drop l.i l.stations) ≡ count_before l.station l.stations;
  behind : l.behind + count_before l.station (drop l.i l.stations) + count_of l.station (drop l.i l.stations) ≡ count_before l.station l.stations + count_of l.station l.stations;
  first_within : l.first ≤ l.i;
  within : l.behind ≤ l.i;
}
