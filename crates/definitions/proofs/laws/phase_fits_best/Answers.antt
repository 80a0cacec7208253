-- The phase fits best.
use Rattle.std.proofs.Common.{arith}
use Rattle.definitions.specs.heard.Phase.{agreement}
use Rattle.definitions.proofs.PhaseLaws.{first_maximum_is}
use Rattle.definitions.proofs.laws.phase_fits_best.Goals as goal

pub returns-clause-range : goal.returns-clause-range
returns-clause-range c = λ start n bank. omega (arith, (first_maximum_is (agreement start n bank) 999).within)

pub returns-clause-best : goal.returns-clause-best
returns-clause-best c = λ start n bank f lt. (first_maximum_is (agreement start n bank) 999).greatest f (omega arith)

pub returns-clause-first : goal.returns-clause-first
returns-clause-first c = λ start n bank. (first_maximum_is (agreement start n bank) 999).first
