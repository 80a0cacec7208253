-- JJY at 2002-06-10T06:45Z, in Japan 15:45.
use Rattle.std.proofs.Common.{false, refl, ◌∙◌}
use Rattle.definitions.specs.time.Calendar.{day_at}
use Rattle.definitions.specs.examples.Dates.{at, on}
use Rattle.definitions.proofs.ListingLaws.{jjy_characters}
use Rattle.definitions.proofs.examples.telegrams.jjy_at_quarter_to_four.Goals as goal

pub returns-clause-facts : goal.returns-clause-facts
unfolding day_at
returns-clause-facts c = refl

pub returns-clause-characters : goal.returns-clause-characters
unfolding day_at
returns-clause-characters c = jjy_characters false (at (on 2002 6 10) 6 45) ∙ refl
