-- As many entries are published as turns were taken.
use Rattle.std.proofs.Common.{◌≡◌, length}
use Rattle.clock_board.specs.Seats.{published}
use Rattle.board_bench.proofs.publishing.publish_on_board.Given as goal

abbrev pub invariant-loop-number : goal.invariant-loop-number
invariant-loop-number g l = record { many : length (published l.tracker) ≡ l.number }
