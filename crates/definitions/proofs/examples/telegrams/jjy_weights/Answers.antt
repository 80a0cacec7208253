-- Minutes of JJY by their facts.
use Rattle.std.proofs.Common.{refl}
use Rattle.definitions.proofs.examples.telegrams.jjy_weights.Goals as goal

pub returns-clause-of_2099 : goal.returns-clause-of_2099
returns-clause-of_2099 c = refl

pub returns-clause-of_2032 : goal.returns-clause-of_2032
returns-clause-of_2032 c = refl

pub returns-clause-of_2095 : goal.returns-clause-of_2095
returns-clause-of_2095 c = refl

pub returns-clause-of_2079 : goal.returns-clause-of_2079
returns-clause-of_2079 c = refl
