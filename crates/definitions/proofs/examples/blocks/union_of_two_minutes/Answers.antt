-- What two minutes may carry together.
use Rattle.std.proofs.Common.{arith}
use Rattle.signal_base.specs.declared.station.Station.TheVariants.{Wwvb, Jjy}
use Rattle.std.proofs.Common.{false}
use Rattle.definitions.specs.time.Calendar.{day_at}
use Rattle.definitions.specs.time.Summer.{season_at}
use Rattle.definitions.proofs.PairLaws.{pair_union}
use Rattle.definitions.proofs.examples.blocks.union_of_two_minutes.Goals as goal

pub returns-clause-alike : goal.returns-clause-alike
unfolding day_at season_at
returns-clause-alike c = pair_union 4 700 false (omega arith) Wwvb 1 (omega arith)

pub returns-clause-differ : goal.returns-clause-differ
unfolding day_at season_at
returns-clause-differ c = pair_union 4 700 false (omega arith) Wwvb 8 (omega arith)

pub returns-clause-unscored : goal.returns-clause-unscored
unfolding day_at season_at
returns-clause-unscored c = pair_union 8 674 false (omega arith) Jjy 40 (omega arith)
