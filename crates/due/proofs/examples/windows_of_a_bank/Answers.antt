-- The phase is computed.
use Rattle.std.proofs.Common.{refl}
use Rattle.definitions.specs.heard.Phase.{first_maximum}
use Rattle.due.proofs.examples.windows_of_a_bank.Goals as goal

pub returns-clause-from_first : goal.returns-clause-from_first
unfolding first_maximum
returns-clause-from_first c = refl

pub returns-clause-from_start : goal.returns-clause-from_start
unfolding first_maximum
returns-clause-from_start c = refl
