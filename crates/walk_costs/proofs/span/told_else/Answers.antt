use Rattle.std.proofs.Common.{arith}
use Rattle.signal_base.proofs.Made.{made_by}
use Rattle.walk_costs.specs.Seen.{other_at, told_else}
use Rattle.walk_costs.proofs.span.told_else.Goals as goal

pub returns : goal.returns
unfolding told_else
returns c =
    let all = c.loop-s.invariant in
    made_by (other_at c.args.one.now c.args.other.now c.args.told.now) 60 c.loop-s.part all.long (λ s lt. all.done s (omega (arith, lt, c.loop-s-test.false)))
