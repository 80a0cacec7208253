-- Tables of receivers.
use Rattle.std.proofs.Common.{refl}
use Rattle.signal_base.specs.Table.{difference_table}
use Rattle.definitions.specs.heard.Costs.{sum_below}
use Rattle.definitions.specs.heard.Logs.{low_count}
use Rattle.definitions.specs.examples.Receivers.{double_table}
use Rattle.definitions.proofs.examples.caps.a_table_of_its_own.Goals as goal

pub returns-clause-capped : goal.returns-clause-capped
unfolding sum_below low_count difference_table
returns-clause-capped c = refl

pub returns-clause-uncapped : goal.returns-clause-uncapped
unfolding sum_below low_count difference_table
returns-clause-uncapped c = refl

pub returns-clause-doubled : goal.returns-clause-doubled
unfolding sum_below low_count difference_table double_table
returns-clause-doubled c = refl

pub returns-clause-single : goal.returns-clause-single
unfolding sum_below low_count difference_table double_table
returns-clause-single c = refl
