-- The fields of a minute.
use Rattle.std.proofs.Common.{refl}
use Rattle.definitions.specs.time.Calendar.{day_at}
use Rattle.definitions.proofs.examples.calendar.fields_of_a_minute.Goals as goal

pub returns : goal.returns
unfolding day_at
returns c = refl
