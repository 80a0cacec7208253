-- Minutes of MSF by their facts.
use Rattle.std.proofs.Common.{refl}
use Rattle.definitions.proofs.examples.telegrams.msf_weights.Goals as goal

pub returns-clause-of_2056 : goal.returns-clause-of_2056
returns-clause-of_2056 c = refl

pub returns-clause-of_2018 : goal.returns-clause-of_2018
returns-clause-of_2018 c = refl

pub returns-clause-of_2024 : goal.returns-clause-of_2024
returns-clause-of_2024 c = refl

pub returns-clause-of_2092 : goal.returns-clause-of_2092
returns-clause-of_2092 c = refl
