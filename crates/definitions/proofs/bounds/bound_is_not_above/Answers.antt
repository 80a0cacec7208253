-- Blocks and their bounds.
use Rattle.definitions.proofs.BoundLaws.{key_le, no_bound}
use Rattle.definitions.proofs.bounds.bound_is_not_above.Goals as goal

pub returns-clause-key : goal.returns-clause-key
returns-clause-key c = key_le

pub returns-clause-none : goal.returns-clause-none
returns-clause-none c = no_bound
