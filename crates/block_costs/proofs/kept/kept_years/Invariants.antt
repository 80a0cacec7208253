use Rattle.block_costs.specs.Keeping.{AreGathered}
use Rattle.block_costs.proofs.kept.kept_years.Given as goal

abbrev pub invariant-loop-year : goal.invariant-loop-year
invariant-loop-year l = record { gathered : AreGathered l.walks l.gathered.ranges.items l.gathered.firsts.items l.gathered.rests.items }
