-- Edges near a phase.
use Rattle.std.proofs.Common.{refl}
use Rattle.definitions.specs.heard.Phase.{first_maximum}
use Rattle.definitions.proofs.examples.receivers.edges_near_a_phase.Goals as goal

pub returns-clause-near : goal.returns-clause-near
unfolding first_maximum
returns-clause-near c = refl

pub returns-clause-not_near : goal.returns-clause-not_near
unfolding first_maximum
returns-clause-not_near c = refl

pub returns-clause-round : goal.returns-clause-round
unfolding first_maximum
returns-clause-round c = refl

pub returns-clause-not_quite_round : goal.returns-clause-not_quite_round
unfolding first_maximum
returns-clause-not_quite_round c = refl
