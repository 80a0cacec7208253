-- WWVB at 2004-02-29T12:34Z.
use Rattle.std.proofs.Common.{false, refl, ◌∙◌}
use Rattle.definitions.specs.time.Calendar.{day_at}
use Rattle.definitions.specs.time.Summer.{season_at}
use Rattle.definitions.specs.examples.Dates.{at, on}
use Rattle.definitions.proofs.ListingLaws.{wwvb_characters}
use Rattle.definitions.proofs.examples.telegrams.wwvb_on_a_leap_day.Goals as goal

pub returns-clause-facts : goal.returns-clause-facts
unfolding day_at season_at
returns-clause-facts c = refl

pub returns-clause-characters : goal.returns-clause-characters
unfolding day_at season_at
returns-clause-characters c = wwvb_characters false (at (on 2004 2 29) 12 34) ∙ refl
