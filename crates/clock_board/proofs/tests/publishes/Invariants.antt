-- As many entries are published as turns were taken.
use Rattle.std.proofs.Common.{◌≡◌, length}
use Rattle.clock_board.specs.Seats.{published}
use Rattle.clock_board.proofs.tests.publishes.Given as goal

abbrev pub invariant-loop-n : goal.invariant-loop-n
invariant-loop-n g l = record { many : length (published l.tracker) ≡ l.n }
