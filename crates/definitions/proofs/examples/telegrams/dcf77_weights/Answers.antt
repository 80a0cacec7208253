-- Minutes of DCF77 by their facts.
use Rattle.std.proofs.Common.{refl}
use Rattle.definitions.proofs.examples.telegrams.dcf77_weights.Goals as goal

pub returns-clause-of_2085 : goal.returns-clause-of_2085
returns-clause-of_2085 c = refl

pub returns-clause-of_2047 : goal.returns-clause-of_2047
returns-clause-of_2047 c = refl

pub returns-clause-of_2059 : goal.returns-clause-of_2059
returns-clause-of_2059 c = refl

pub returns-clause-of_2071 : goal.returns-clause-of_2071
returns-clause-of_2071 c = refl
