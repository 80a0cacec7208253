use Rattle.std.proofs.Common.{◌≡◌, length, arith}
use Rattle.clock_board.specs.Seats.{published}
use Rattle.clock_board.proofs.tests.publishes.Goals as goal

pub publish-requires : goal.publish-requires
publish-requires g c =
    let many : length (published c.loop-n.tracker) ≡ c.loop-n.n = c.loop-n.invariant.many in
    omega (arith, c.loop-n-test.true, c.loop-n.auto.n-end)
