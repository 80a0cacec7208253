-- Costs of several stations.
use Rattle.std.proofs.Common.{refl}
use Rattle.definitions.specs.time.Calendar.{day_at}
use Rattle.definitions.specs.time.Summer.{season_at, eu_change_within}
use Rattle.definitions.specs.sequences.Walks.{place_at}
use Rattle.definitions.specs.heard.Costs.{sum_below}
use Rattle.definitions.proofs.examples.receivers.stations_are_summed.Goals as goal

pub returns-clause-two : goal.returns-clause-two
unfolding day_at season_at eu_change_within place_at sum_below
returns-clause-two c = refl

pub returns-clause-jjy : goal.returns-clause-jjy
unfolding day_at season_at eu_change_within place_at sum_below
returns-clause-jjy c = refl

pub returns-clause-four : goal.returns-clause-four
unfolding day_at season_at eu_change_within place_at sum_below
returns-clause-four c = refl
