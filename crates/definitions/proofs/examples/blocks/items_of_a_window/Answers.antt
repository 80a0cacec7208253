-- Items by their first index.
use Rattle.std.proofs.Common.{refl}
use Rattle.definitions.specs.time.Calendar.{day_at}
use Rattle.definitions.specs.answers.Blocks.{blocks}
use Rattle.definitions.proofs.examples.blocks.items_of_a_window.Goals as goal

pub returns-clause-one_year : goal.returns-clause-one_year
unfolding day_at blocks
returns-clause-one_year c = refl

pub returns-clause-two_years : goal.returns-clause-two_years
unfolding day_at blocks
returns-clause-two_years c = refl
