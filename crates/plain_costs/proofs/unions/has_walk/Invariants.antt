use Rattle.plain_costs.proofs.UnionLaws.{NoneWalks}
use Rattle.plain_costs.proofs.unions.has_walk.Given as goal

abbrev pub invariant-loop-first : goal.invariant-loop-first
invariant-loop-first l = NoneWalks l.window l.block l.first
