use Rattle.std.proofs.Common.{◌≡◌, length, arith}
use Rattle.clock_board.specs.Seats.{published}
use Rattle.board_bench.proofs.publishing.publish_on_board.Goals as goal

pub publish-requires : goal.publish-requires
publish-requires g c =
    let many : length (published c.loop-number.tracker) ≡ c.loop-number.number = c.loop-number.invariant.many in
    omega (arith, c.loop-number-test.true, c.loop-number.auto.number-end)
