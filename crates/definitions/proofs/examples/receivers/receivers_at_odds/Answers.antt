-- Two receivers.
use Rattle.std.proofs.Common.{refl}
use Rattle.definitions.specs.heard.Costs.{sum_below}
use Rattle.definitions.specs.heard.Logs.{low_count}
use Rattle.signal_base.specs.Table.{difference_table}
use Rattle.definitions.proofs.examples.receivers.receivers_at_odds.Goals as goal

pub returns-clause-symbols : goal.returns-clause-symbols
unfolding sum_below low_count difference_table
returns-clause-symbols c = refl

pub returns-clause-set : goal.returns-clause-set
unfolding sum_below low_count difference_table
returns-clause-set c = refl
