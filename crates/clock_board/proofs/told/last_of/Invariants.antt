-- None of the entries that were looked at has the millisecond.
use Rattle.std.proofs.Common.{◌-◌, ◌≤◌, length}
use Rattle.clock_board.proofs.Listing.{NoneFrom}
use Rattle.clock_board.proofs.told.last_of.Given as goal

abbrev pub invariant-loop-n : goal.invariant-loop-n
invariant-loop-n l = record {
  first : length l.entries - 64 ≤ l.n;
  none : NoneFrom l.ms l.entries l.n;
}
