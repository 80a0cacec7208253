use Rattle.std.proofs.Common.{arith}
use Rattle.certificates.proofs.examples.texts.named_keys.Goals as goal

pub returns-clause-last : goal.returns-clause-last
returns-clause-last c = (omega arith, omega arith)

pub returns-clause-beyond : goal.returns-clause-beyond
returns-clause-beyond c = λ can. omega (arith, can.0)

pub returns-clause-dear : goal.returns-clause-dear
returns-clause-dear c = λ can. omega (arith, can.1)
