-- Two pulses.
use Rattle.std.proofs.Common.{refl}
use Rattle.signal_base.specs.Table.{difference_table}
use Rattle.definitions.specs.heard.Costs.{sum_below}
use Rattle.definitions.specs.heard.Logs.{low_count}
use Rattle.definitions.proofs.examples.receivers.two_pulses_cost.Goals as goal

pub returns-clause-zero : goal.returns-clause-zero
unfolding sum_below low_count difference_table
returns-clause-zero c = refl

pub returns-clause-one : goal.returns-clause-one
unfolding sum_below low_count difference_table
returns-clause-one c = refl

pub returns-clause-later : goal.returns-clause-later
unfolding sum_below low_count difference_table
returns-clause-later c = refl

pub returns-clause-other : goal.returns-clause-other
unfolding sum_below low_count difference_table
returns-clause-other c = refl
