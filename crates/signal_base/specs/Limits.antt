-- Tunings and cost tables whose numbers are in their ranges.
use Rattle.std.specs.Prelude.{ℕ, ◌≤◌, slice_index}
use Rattle.std.specs.Option.{ForSome}
use Rattle.signal_base.specs.declared.tuning.Tuning.{Tuning}
use Rattle.signal_base.specs.declared.tuning.CostTable.{CostTable}
use Rattle.signal_base.specs.declared.limits.TheConstants.{LEAST_SECOND_COST, LEAST_WEIGHT, MOST_COST, MOST_DELAY, MOST_SECOND_COST, MOST_WEIGHT}

-- what a second costs at the most is in its range
pub record IsCap (most : ℕ) : Type 0 where
  pub some : LEAST_SECOND_COST ≤ most
  pub few : most ≤ MOST_SECOND_COST

-- no entry of the table is above the greatest cost, and what a second costs at the most, if it is given, is in its range
pub record IsPriced (table : CostTable) : Type 0 where
  pub low : (n : ℕ) → slice_index table.low n ≤ MOST_COST
  pub high : (n : ℕ) → slice_index table.high n ≤ MOST_COST
  pub second : ForSome table.second IsCap

-- the tuning is in its ranges
pub record IsTuned (t : Tuning) : Type 0 where
  pub delay : t.delay ≤ MOST_DELAY
  pub some_weight : LEAST_WEIGHT ≤ t.weight
  pub weight : t.weight ≤ MOST_WEIGHT
  pub priced : ForSome t.table IsPriced
