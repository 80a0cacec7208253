-- Edges of a phase.
use Rattle.std.proofs.Common.{refl}
use Rattle.definitions.specs.heard.Phase.{first_maximum}
use Rattle.definitions.proofs.examples.receivers.edges_of_a_phase.Goals as goal

pub returns-clause-falls : goal.returns-clause-falls
unfolding first_maximum
returns-clause-falls c = refl

pub returns-clause-inside : goal.returns-clause-inside
unfolding first_maximum
returns-clause-inside c = refl

pub returns-clause-first : goal.returns-clause-first
unfolding first_maximum
returns-clause-first c = refl
