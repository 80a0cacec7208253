-- Children of blocks that are cut.
use Rattle.std.proofs.Common.{refl}
use Rattle.definitions.specs.time.Calendar.{day_at}
use Rattle.definitions.specs.answers.Blocks.{blocks}
use Rattle.definitions.proofs.examples.blocks.children_of_blocks.Goals as goal

pub returns-clause-year : goal.returns-clause-year
unfolding day_at blocks
returns-clause-year c = refl

pub returns-clause-day : goal.returns-clause-day
unfolding day_at blocks
returns-clause-day c = refl

pub returns-clause-hour : goal.returns-clause-hour
unfolding day_at blocks
returns-clause-hour c = refl

pub returns-clause-last_day : goal.returns-clause-last_day
unfolding day_at blocks
returns-clause-last_day c = refl

pub returns-clause-last_hours : goal.returns-clause-last_hours
unfolding day_at blocks
returns-clause-last_hours c = refl

pub returns-clause-last_minutes : goal.returns-clause-last_minutes
unfolding day_at blocks
returns-clause-last_minutes c = refl

pub returns-clause-minute : goal.returns-clause-minute
unfolding day_at blocks
returns-clause-minute c = refl
