-- WWVB's seconds around the changes of 2000.
use Rattle.std.proofs.Common.{refl}
use Rattle.definitions.specs.time.Calendar.{day_at}
use Rattle.definitions.specs.time.Summer.{season_at}
use Rattle.definitions.proofs.examples.calendar.american_seconds.Goals as goal

pub returns-clause-spring : goal.returns-clause-spring
unfolding day_at season_at
returns-clause-spring c = refl

pub returns-clause-autumn : goal.returns-clause-autumn
unfolding day_at season_at
returns-clause-autumn c = refl
