-- MSF at 2001-07-16T12:00Z, in summer time.
use Rattle.std.proofs.Common.{false, refl, ◌∙◌}
use Rattle.definitions.specs.time.Calendar.{day_at}
use Rattle.definitions.specs.time.Summer.{season_at, eu_change_within}
use Rattle.definitions.specs.examples.Dates.{at, on}
use Rattle.definitions.proofs.ListingLaws.{msf_characters}
use Rattle.definitions.proofs.examples.telegrams.msf_in_summer.Goals as goal

pub returns-clause-facts : goal.returns-clause-facts
unfolding day_at season_at eu_change_within
returns-clause-facts c = refl

pub returns-clause-characters : goal.returns-clause-characters
unfolding day_at season_at eu_change_within
returns-clause-characters c = msf_characters false (at (on 2001 7 16) 12 0) ∙ refl
