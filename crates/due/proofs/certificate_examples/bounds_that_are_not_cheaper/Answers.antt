-- Numbers compared.
use Rattle.std.proofs.Common.{arith}
use Rattle.due.proofs.certificate_examples.bounds_that_are_not_cheaper.Goals as goal

pub returns-clause-two : goal.returns-clause-two
returns-clause-two c = λ q. (omega arith, omega arith)

pub returns-clause-cheaper : goal.returns-clause-cheaper
returns-clause-cheaper c = λ q is. omega (arith, is.1)

pub returns-clause-tie : goal.returns-clause-tie
returns-clause-tie c = λ q r. omega arith

pub returns-clause-one : goal.returns-clause-one
returns-clause-one c = λ q is. omega (arith, is.1)

pub returns-clause-none : goal.returns-clause-none
returns-clause-none c = omega arith

pub returns-clause-at_the_ceiling : goal.returns-clause-at_the_ceiling
returns-clause-at_the_ceiling c = λ is. omega (arith, is)
