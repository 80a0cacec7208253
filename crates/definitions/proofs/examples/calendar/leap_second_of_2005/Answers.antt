-- The end of 2005.
use Rattle.std.proofs.Common.{refl}
use Rattle.definitions.specs.time.Calendar.{day_at}
use Rattle.definitions.proofs.examples.calendar.leap_second_of_2005.Goals as goal

pub returns-clause-before : goal.returns-clause-before
unfolding day_at
returns-clause-before c = refl

pub returns-clause-last : goal.returns-clause-last
unfolding day_at
returns-clause-last c = refl

pub returns-clause-after : goal.returns-clause-after
unfolding day_at
returns-clause-after c = refl

pub returns-clause-long : goal.returns-clause-long
unfolding day_at
returns-clause-long c = refl

pub returns-clause-plain : goal.returns-clause-plain
unfolding day_at
returns-clause-plain c = refl
