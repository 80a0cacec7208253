-- A walk through a leap second.
use Rattle.std.proofs.Common.{refl}
use Rattle.definitions.specs.time.Calendar.{day_at}
use Rattle.definitions.specs.sequences.Walks.{place_at}
use Rattle.definitions.proofs.examples.sequences.walk_through_a_leap_second.Goals as goal

pub returns : goal.returns
unfolding day_at place_at
returns c = refl
