use Rattle.std.proofs.Common.{arith}
use Rattle.signal_base.proofs.Made.{made_by}
use Rattle.walk_costs.specs.Seen.{first_at, first_told}
use Rattle.walk_costs.proofs.span.first_told.Goals as goal

pub returns : goal.returns
unfolding first_told
returns c =
    let all = c.loop-s.invariant in
    made_by (first_at c.args.one.now c.args.told.now) 60 c.loop-s.part all.long (λ s lt. all.done s (omega (arith, lt, c.loop-s-test.false)))
