-- Pulses under a cap.
use Rattle.std.proofs.Common.{refl}
use Rattle.signal_base.specs.Table.{difference_table}
use Rattle.definitions.specs.heard.Costs.{sum_below}
use Rattle.definitions.specs.heard.Logs.{low_count}
use Rattle.definitions.proofs.examples.caps.capped_pulses.Goals as goal

pub returns-clause-zero : goal.returns-clause-zero
unfolding sum_below low_count difference_table
returns-clause-zero c = refl

pub returns-clause-one : goal.returns-clause-one
unfolding sum_below low_count difference_table
returns-clause-one c = refl
