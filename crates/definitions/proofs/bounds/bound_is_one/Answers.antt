-- Blocks and their bounds.
use Rattle.definitions.proofs.BoundLaws.{unions_one, bounds_one}
use Rattle.definitions.proofs.bounds.bound_is_one.Goals as goal

pub returns-clause-union : goal.returns-clause-union
returns-clause-union c = unions_one

pub returns-clause-bound : goal.returns-clause-bound
returns-clause-bound c = bounds_one
