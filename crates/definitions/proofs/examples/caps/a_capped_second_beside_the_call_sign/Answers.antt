-- A capped second and the call sign.
use Rattle.std.proofs.Common.{refl}
use Rattle.signal_base.specs.Table.{difference_table}
use Rattle.definitions.specs.heard.Costs.{sum_below}
use Rattle.definitions.specs.heard.Logs.{low_count}
use Rattle.definitions.proofs.examples.caps.a_capped_second_beside_the_call_sign.Goals as goal

pub returns-clause-scored : goal.returns-clause-scored
unfolding sum_below low_count difference_table
returns-clause-scored c = refl

pub returns-clause-not_scored : goal.returns-clause-not_scored
unfolding sum_below low_count difference_table
returns-clause-not_scored c = refl

pub returns-clause-uncapped : goal.returns-clause-uncapped
unfolding sum_below low_count difference_table
returns-clause-uncapped c = refl
