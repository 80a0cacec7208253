-- Levels of a log.
use Rattle.std.proofs.Common.{refl}
use Rattle.definitions.proofs.examples.receivers.levels_of_a_log.Goals as goal

pub returns-clause-records : goal.returns-clause-records
returns-clause-records c = refl

pub returns-clause-none : goal.returns-clause-none
returns-clause-none c = refl
