-- JJY at 2005-12-31T23:59Z.
use Rattle.std.proofs.Common.{true, refl, ◌∙◌}
use Rattle.definitions.specs.time.Calendar.{day_at}
use Rattle.definitions.specs.examples.Dates.{at, on}
use Rattle.definitions.proofs.ListingLaws.{jjy_characters}
use Rattle.definitions.proofs.examples.telegrams.jjy_with_a_leap_second.Goals as goal

pub returns-clause-facts : goal.returns-clause-facts
unfolding day_at
returns-clause-facts c = refl

pub returns-clause-characters : goal.returns-clause-characters
unfolding day_at
returns-clause-characters c = jjy_characters true (at (on 2005 12 31) 23 59) ∙ refl
