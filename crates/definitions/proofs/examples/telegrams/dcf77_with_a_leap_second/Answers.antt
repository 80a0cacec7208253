-- DCF77 at 2005-12-31T23:59Z, the minute with the leap second.
use Rattle.std.proofs.Common.{true, refl, ◌∙◌}
use Rattle.definitions.specs.time.Calendar.{day_at}
use Rattle.definitions.specs.time.Summer.{season_at, eu_change_within}
use Rattle.definitions.specs.examples.Dates.{at, on}
use Rattle.definitions.proofs.ListingLaws.{dcf_characters}
use Rattle.definitions.proofs.examples.telegrams.dcf77_with_a_leap_second.Goals as goal

pub returns-clause-facts : goal.returns-clause-facts
unfolding day_at season_at eu_change_within
returns-clause-facts c = refl

pub returns-clause-characters : goal.returns-clause-characters
unfolding day_at season_at eu_change_within
returns-clause-characters c = dcf_characters true (at (on 2005 12 31) 23 59) ∙ refl
