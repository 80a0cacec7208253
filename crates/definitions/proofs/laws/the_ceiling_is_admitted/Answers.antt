-- The ceiling is admitted.
use Rattle.std.proofs.Common.{arith}
use Rattle.definitions.proofs.laws.the_ceiling_is_admitted.Goals as goal

pub returns-clause-within : goal.returns-clause-within
returns-clause-within c = λ window costs q legal. (legal, omega arith)

pub returns-clause-beyond : goal.returns-clause-beyond
returns-clause-beyond c = λ window costs ceiling q gt is. omega (arith, gt, is.1)
