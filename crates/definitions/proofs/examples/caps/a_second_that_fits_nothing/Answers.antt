-- Seconds that fit nothing.
use Rattle.std.proofs.Common.{refl}
use Rattle.signal_base.specs.Table.{difference_table}
use Rattle.definitions.specs.heard.Costs.{sum_below}
use Rattle.definitions.specs.heard.Logs.{low_count}
use Rattle.definitions.proofs.examples.caps.a_second_that_fits_nothing.Goals as goal

pub returns-clause-silence : goal.returns-clause-silence
unfolding sum_below low_count difference_table
returns-clause-silence c = refl

pub returns-clause-fits : goal.returns-clause-fits
unfolding sum_below low_count difference_table
returns-clause-fits c = refl
