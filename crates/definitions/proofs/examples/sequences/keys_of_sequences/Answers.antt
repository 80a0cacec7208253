-- Keys.
use Rattle.std.proofs.Common.{refl}
use Rattle.definitions.proofs.examples.sequences.keys_of_sequences.Goals as goal

pub returns-clause-minute : goal.returns-clause-minute
returns-clause-minute c = refl

pub returns-clause-second : goal.returns-clause-second
returns-clause-second c = refl

pub returns-clause-announced : goal.returns-clause-announced
returns-clause-announced c = refl

pub returns-clause-cost : goal.returns-clause-cost
returns-clause-cost c = refl
