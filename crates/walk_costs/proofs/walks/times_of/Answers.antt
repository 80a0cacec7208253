use Rattle.std.proofs.Common.{arith}
use Rattle.walk_costs.proofs.RunLaws.{same_parts}
use Rattle.walk_costs.proofs.walks.times_of.Goals as goal

pub returns : goal.returns
returns c =
    same_parts c.loop-u.times.items c.args.parts.now.times (omega (arith, c.loop-u.invariant.count, c.requires.minutes))
    (λ k within. c.loop-u.invariant.each k (omega (arith, within, c.loop-u.invariant.count)))
