-- Symbols of sets.
use Rattle.std.proofs.Common.{refl}
use Rattle.definitions.proofs.examples.telegrams.symbols_of_a_set.Goals as goal

pub returns-clause-one : goal.returns-clause-one
returns-clause-one c = refl

pub returns-clause-two : goal.returns-clause-two
returns-clause-two c = refl

pub returns-clause-none : goal.returns-clause-none
returns-clause-none c = refl
