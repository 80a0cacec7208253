-- An announcement that two minutes of January don't show.
use Rattle.std.proofs.Common.{true, arith}
use Rattle.signal_base.specs.declared.station.Station.TheVariants.{Wwvb}
use Rattle.definitions.specs.time.Calendar.{day_at}
use Rattle.definitions.specs.time.Summer.{season_at}
use Rattle.definitions.specs.heard.Costs.{sum_below}
use Rattle.definitions.specs.examples.Sequences.{costs_by_symbol}
use Rattle.definitions.proofs.PairLaws.{pair_union, pair_bound, not_shown}
use Rattle.definitions.proofs.examples.blocks.bound_of_an_announcement.Goals as goal

pub returns-clause-union : goal.returns-clause-union
unfolding day_at season_at
returns-clause-union c = pair_union 4 700 true (omega arith) Wwvb 8 (omega arith)

pub returns-clause-hour : goal.returns-clause-hour
unfolding day_at season_at sum_below
returns-clause-hour c = pair_bound 4 700 true (omega arith) costs_by_symbol

pub returns-clause-minute : goal.returns-clause-minute
returns-clause-minute c = not_shown
