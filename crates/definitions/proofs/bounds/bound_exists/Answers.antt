-- Unions and bounds exist.
use Rattle.definitions.proofs.BoundExistLaws.{a_union, a_bound}
use Rattle.definitions.proofs.bounds.bound_exists.Goals as goal

pub returns-clause-union : goal.returns-clause-union
returns-clause-union c = a_union

pub returns-clause-bound : goal.returns-clause-bound
returns-clause-bound c = a_bound
