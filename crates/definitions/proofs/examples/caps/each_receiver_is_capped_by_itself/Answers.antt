-- Two receivers under a cap.
use Rattle.std.proofs.Common.{refl}
use Rattle.signal_base.specs.Table.{difference_table}
use Rattle.definitions.specs.heard.Costs.{sum_below}
use Rattle.definitions.specs.heard.Logs.{low_count}
use Rattle.definitions.proofs.examples.caps.each_receiver_is_capped_by_itself.Goals as goal

pub returns : goal.returns
unfolding sum_below low_count difference_table
returns c = refl
