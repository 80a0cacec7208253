use Rattle.std.proofs.Common.{arith}
use Rattle.plain_costs.proofs.UnionLaws.{none_has_walk}
use Rattle.plain_costs.proofs.unions.has_walk.Goals as goal

pub returns : goal.returns
returns c = (λ no. cc, λ walk. absurd (none_has_walk c.args.window.now c.args.block.now c.loop-first.first c.loop-first.invariant (omega arith) walk))
