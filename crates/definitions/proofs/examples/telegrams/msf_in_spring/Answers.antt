-- MSF at 2001-03-25T00:59Z, the minute before summer time.
use Rattle.std.proofs.Common.{false, refl, ◌∙◌}
use Rattle.definitions.specs.time.Calendar.{day_at}
use Rattle.definitions.specs.time.Summer.{season_at, eu_change_within}
use Rattle.definitions.specs.examples.Dates.{at, on}
use Rattle.definitions.proofs.ListingLaws.{msf_characters}
use Rattle.definitions.proofs.examples.telegrams.msf_in_spring.Goals as goal

pub returns-clause-facts : goal.returns-clause-facts
unfolding day_at season_at eu_change_within
returns-clause-facts c = refl

pub returns-clause-characters : goal.returns-clause-characters
unfolding day_at season_at eu_change_within
returns-clause-characters c = msf_characters false (at (on 2001 3 25) 0 59) ∙ refl
