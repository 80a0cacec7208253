-- The phase is computed.
use Rattle.std.proofs.Common.{refl}
use Rattle.definitions.specs.heard.Phase.{first_maximum}
use Rattle.follow_due.proofs.examples.windows_of_a_log.Goals as goal

pub returns-clause-of_bank : goal.returns-clause-of_bank
unfolding first_maximum
returns-clause-of_bank c = λ table ceiling. refl
