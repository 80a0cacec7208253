-- A capped second that breaks off.
use Rattle.std.proofs.Common.{refl}
use Rattle.signal_base.specs.Table.{difference_table}
use Rattle.definitions.specs.heard.Costs.{sum_below}
use Rattle.definitions.specs.heard.Logs.{low_count}
use Rattle.definitions.proofs.examples.caps.a_capped_second_that_breaks_off.Goals as goal

pub returns : goal.returns
unfolding sum_below low_count difference_table
returns c = refl
