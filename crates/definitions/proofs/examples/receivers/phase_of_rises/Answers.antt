-- The phase of three rises.
use Rattle.std.proofs.Common.{refl}
use Rattle.definitions.specs.heard.Phase.{first_maximum}
use Rattle.definitions.proofs.examples.receivers.phase_of_rises.Goals as goal

pub returns-clause-plain : goal.returns-clause-plain
unfolding first_maximum
returns-clause-plain c = refl

pub returns-clause-delayed : goal.returns-clause-delayed
unfolding first_maximum
returns-clause-delayed c = refl

pub returns-clause-together : goal.returns-clause-together
unfolding first_maximum
returns-clause-together c = refl
