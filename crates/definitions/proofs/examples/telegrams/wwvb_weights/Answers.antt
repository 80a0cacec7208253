-- Minutes of WWVB by their facts.
use Rattle.std.proofs.Common.{refl}
use Rattle.definitions.proofs.examples.telegrams.wwvb_weights.Goals as goal

pub returns-clause-of_2071 : goal.returns-clause-of_2071
returns-clause-of_2071 c = refl

pub returns-clause-of_2085 : goal.returns-clause-of_2085
returns-clause-of_2085 c = refl

pub returns-clause-of_2038 : goal.returns-clause-of_2038
returns-clause-of_2038 c = refl

pub returns-clause-of_2013 : goal.returns-clause-of_2013
returns-clause-of_2013 c = refl
