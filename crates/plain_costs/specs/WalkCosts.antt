-- What a walk costs a station: its sets, and the seconds that tell DUT1 by each value of it.
use Rattle.std.specs.Prelude.{ℕ, ◌≡◌, ◌+◌, ◌≤◌, true, length, slice_index}
use Rattle.signal_base.specs.declared.limits.TheConstants.{MOST_SECONDS}
use Rattle.signal_base.specs.declared.station.Station.{Station}
use Rattle.signal_base.specs.declared.window.Window.{Window}
use Rattle.definitions.specs.declared.sequence.Sequence.{Sequence}
use Rattle.definitions.specs.codes.Allowed.{has_station}
use Rattle.definitions.specs.sequences.Walks.{set_at, IsSequence, IsWalkable}
use Rattle.definitions.specs.heard.Costs.{cost_outside_dut1, dut1_cost, lies_in_one_day, set_cost, sum_below}
use Rattle.symbol_cost.specs.Grid.{Grid}
use Rattle.plain_costs.specs.declared.walk.WalkCost.{WalkCost}
use Rattle.plain_costs.specs.Tenths.{AreByValue}

-- the grid is that of a station of the window, over its slots, and the sequence can walk through them
pub record CanWalk (grid : Grid) (station : Station) (window : Window) (q : Sequence) : Type 0 where
  pub of_station : grid.station ≡ station
  pub heard : has_station window.stations station ≡ true
  pub slots : length grid.rows ≡ window.seconds
  pub seconds : window.seconds ≤ MOST_SECONDS
  pub sequence : IsSequence q
  pub walkable : IsWalkable window q

-- what the sets of the first n slots cost
abbrev pub cost_of_sets : Station → (ℕ → ℕ → ℕ) → ℕ → Sequence → ℕ
cost_of_sets station costs n q = sum_below n (λ k. set_cost station (costs k) (set_at station q k))

-- this is what a walk of n slots costs
pub record IsWalkCost (station : Station) (costs : ℕ → ℕ → ℕ) (n : ℕ) (q : Sequence) (walk : WalkCost) : Type 0 where
  pub all : walk.all ≡ cost_of_sets station costs n q
  pub outside : walk.outside ≡ cost_outside_dut1 station costs n q
  pub told : AreByValue station walk.told (dut1_cost station costs n q)
  pub one_day : walk.one_day ≡ lies_in_one_day n q

-- no cost of the walk is above the most
pub record IsSmall (most : ℕ) (walk : WalkCost) : Type 0 where
  pub all : walk.all ≤ most
  pub parted : (i : ℕ) → walk.outside + slice_index walk.told i ≤ most
