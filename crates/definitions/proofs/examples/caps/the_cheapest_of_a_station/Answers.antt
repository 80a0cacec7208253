-- The cheapest symbol of a station.
use Rattle.std.proofs.Common.{refl}
use Rattle.signal_base.specs.Table.{difference_table}
use Rattle.definitions.specs.heard.Costs.{sum_below}
use Rattle.definitions.specs.heard.Logs.{low_count}
use Rattle.definitions.proofs.examples.caps.the_cheapest_of_a_station.Goals as goal

pub returns-clause-dcf77 : goal.returns-clause-dcf77
unfolding sum_below low_count difference_table
returns-clause-dcf77 c = refl

pub returns-clause-msf : goal.returns-clause-msf
unfolding sum_below low_count difference_table
returns-clause-msf c = refl
