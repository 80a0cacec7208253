use Rattle.block_costs.proofs.SumLaws.{IsCostBefore}
use Rattle.block_costs.proofs.walks.Walks.cost_by_minutes.Given as goal

abbrev pub invariant-loop-m : goal.invariant-loop-m
invariant-loop-m l = record { spent : IsCostBefore l.self.station.now.grid l.self.announced l.self.second l.self.lo l.self.hi l.m l.cost }
