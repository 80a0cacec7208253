-- What two minutes cost, and the bound of both.
use Rattle.std.proofs.Common.{false, refl, arith}
use Rattle.definitions.specs.time.Calendar.{day_at}
use Rattle.definitions.specs.time.Summer.{season_at}
use Rattle.definitions.specs.sequences.Walks.{place_at}
use Rattle.definitions.specs.heard.Costs.{sum_below}
use Rattle.definitions.specs.examples.Sequences.{costs_by_symbol, window_of}
use Rattle.definitions.proofs.MinuteLaws.{early, walkable}
use Rattle.definitions.proofs.PairLaws.{pair_bound}
use Rattle.definitions.proofs.examples.blocks.bound_of_two_minutes.Goals as goal

pub returns-clause-first : goal.returns-clause-first
unfolding day_at season_at place_at sum_below
returns-clause-first c = refl

pub returns-clause-second : goal.returns-clause-second
unfolding day_at season_at place_at sum_below
returns-clause-second c = refl

pub returns-clause-minute : goal.returns-clause-minute
unfolding day_at season_at place_at sum_below
returns-clause-minute c = ((walkable false 701 refl 4 700 702 (omega arith) (omega arith) (early (window_of 4 700 702).stations 701 (omega arith)), λ e. absurd cc), refl)

pub returns-clause-hour : goal.returns-clause-hour
unfolding day_at season_at sum_below
returns-clause-hour c = pair_bound 4 700 false (omega arith) costs_by_symbol

pub returns-clause-two_stations : goal.returns-clause-two_stations
unfolding day_at season_at sum_below
returns-clause-two_stations c = pair_bound 12 700 false (omega arith) costs_by_symbol
