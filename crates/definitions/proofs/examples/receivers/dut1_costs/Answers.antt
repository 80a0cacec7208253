-- What DUT1 costs a minute.
use Rattle.std.proofs.Common.{refl}
use Rattle.definitions.specs.time.Calendar.{day_at}
use Rattle.definitions.specs.time.Summer.{season_at, eu_change_within}
use Rattle.definitions.specs.sequences.Walks.{place_at}
use Rattle.definitions.specs.heard.Costs.{sum_below}
use Rattle.definitions.proofs.examples.receivers.dut1_costs.Goals as goal

pub returns-clause-fits : goal.returns-clause-fits
unfolding day_at season_at eu_change_within place_at sum_below
returns-clause-fits c = refl

pub returns-clause-differs : goal.returns-clause-differs
unfolding day_at season_at eu_change_within place_at sum_below
returns-clause-differs c = refl

pub returns-clause-two_days : goal.returns-clause-two_days
unfolding day_at season_at eu_change_within place_at sum_below
returns-clause-two_days c = refl
