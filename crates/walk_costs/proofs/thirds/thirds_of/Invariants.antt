use Rattle.walk_costs.specs.Leasts.{AreThirds}
use Rattle.walk_costs.proofs.thirds.thirds_of.Given as goal

abbrev pub invariant-loop-k : goal.invariant-loop-k
invariant-loop-k l = record { thirds : AreThirds l.kinds l.all.items l.splits.items l.k }
