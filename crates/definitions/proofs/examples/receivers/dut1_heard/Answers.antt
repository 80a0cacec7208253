-- DUT1 of a minute.
use Rattle.std.proofs.Common.{refl}
use Rattle.definitions.specs.time.Calendar.{day_at}
use Rattle.definitions.specs.sequences.Walks.{place_at}
use Rattle.definitions.specs.heard.Costs.{sum_below}
use Rattle.definitions.proofs.examples.receivers.dut1_heard.Goals as goal

pub returns-clause-negative : goal.returns-clause-negative
unfolding day_at place_at sum_below
returns-clause-negative c = refl

pub returns-clause-tied : goal.returns-clause-tied
unfolding day_at place_at sum_below
returns-clause-tied c = refl

pub returns-clause-nought : goal.returns-clause-nought
unfolding day_at place_at sum_below
returns-clause-nought c = refl

pub returns-clause-wwvb : goal.returns-clause-wwvb
unfolding day_at place_at sum_below
returns-clause-wwvb c = refl

pub returns-clause-most : goal.returns-clause-most
unfolding day_at place_at sum_below
returns-clause-most c = refl

pub returns-clause-beyond : goal.returns-clause-beyond
unfolding day_at place_at sum_below
returns-clause-beyond c = refl

pub returns-clause-fewest : goal.returns-clause-fewest
unfolding day_at place_at sum_below
returns-clause-fewest c = refl

pub returns-clause-wwvb_most : goal.returns-clause-wwvb_most
unfolding day_at place_at sum_below
returns-clause-wwvb_most c = refl

pub returns-clause-wwvb_fewest : goal.returns-clause-wwvb_fewest
unfolding day_at place_at sum_below
returns-clause-wwvb_fewest c = refl

pub returns-clause-two_days : goal.returns-clause-two_days
unfolding day_at place_at sum_below
returns-clause-two_days c = refl

pub returns-clause-to_midnight : goal.returns-clause-to_midnight
unfolding day_at place_at sum_below
returns-clause-to_midnight c = refl

pub returns-clause-not_sent : goal.returns-clause-not_sent
unfolding day_at place_at sum_below
returns-clause-not_sent c = refl

pub returns-clause-two_hours : goal.returns-clause-two_hours
unfolding day_at place_at sum_below
returns-clause-two_hours c = refl
