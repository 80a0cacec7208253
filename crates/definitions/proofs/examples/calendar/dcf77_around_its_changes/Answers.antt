-- DCF77's minutes around the changes of 2000.
use Rattle.std.proofs.Common.{refl}
use Rattle.definitions.specs.time.Calendar.{day_at}
use Rattle.definitions.specs.time.Summer.{season_at, eu_change_within}
use Rattle.definitions.proofs.examples.calendar.dcf77_around_its_changes.Goals as goal

pub returns-clause-spring : goal.returns-clause-spring
unfolding day_at season_at eu_change_within
returns-clause-spring c = refl

pub returns-clause-autumn : goal.returns-clause-autumn
unfolding day_at season_at eu_change_within
returns-clause-autumn c = refl
