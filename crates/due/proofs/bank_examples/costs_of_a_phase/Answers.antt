-- What a second costs, computed.
use Rattle.std.proofs.Common.{refl}
use Rattle.signal_base.specs.Table.{difference_table}
use Rattle.definitions.specs.heard.Costs.{sum_below}
use Rattle.definitions.specs.heard.Logs.{low_count}
use Rattle.due.proofs.bank_examples.costs_of_a_phase.Goals as goal

pub returns-clause-in_phase : goal.returns-clause-in_phase
unfolding sum_below low_count difference_table
returns-clause-in_phase c = refl

pub returns-clause-out_of_phase : goal.returns-clause-out_of_phase
unfolding sum_below low_count difference_table
returns-clause-out_of_phase c = refl

pub returns-clause-own_table : goal.returns-clause-own_table
unfolding sum_below low_count
returns-clause-own_table c = refl
