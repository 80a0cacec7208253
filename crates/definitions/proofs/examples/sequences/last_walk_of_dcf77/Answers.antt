-- The last walk of DCF77.
use Rattle.definitions.proofs.EdgeLaws.{first, second, range}
use Rattle.definitions.proofs.examples.sequences.last_walk_of_dcf77.Goals as goal

pub returns-clause-first : goal.returns-clause-first
returns-clause-first c = first

pub returns-clause-second : goal.returns-clause-second
returns-clause-second c = second

pub returns-clause-range : goal.returns-clause-range
returns-clause-range c = range
