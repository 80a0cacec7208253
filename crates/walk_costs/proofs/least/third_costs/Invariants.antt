use Rattle.walk_costs.specs.Leasts.{AreThirdCosts}
use Rattle.walk_costs.proofs.least.third_costs.Given as goal

abbrev pub invariant-loop-i : goal.invariant-loop-i
invariant-loop-i l = record { costs : AreThirdCosts l.columns l.p l.thirds l.rows.items l.i }
