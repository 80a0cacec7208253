-- What walks through a day cost.
use Rattle.std.proofs.Common.{◌≡◌, ℕ, ◌+◌, ◌*◌, ◌/◌, ◌%◌, ◌<◌, ◌≤◌, List, length, ap, ◌∙◌, arith}
use Rattle.definitions.specs.heard.Costs.{sum_below}
use Rattle.definitions.proofs.CostLaws.{sum_below_bound, sum_below_same}
use Rattle.symbol_cost.specs.Grid.{Grid, cost_at}
use Rattle.symbol_cost.specs.declared.limits.TheConstants.{RECEIVER_COST}
use Rattle.slot_columns.specs.Days.{AreOfDay, day_cost}
use Rattle.slot_columns.specs.Parts.{AreOfWalks, AreWalkCosts, walk_cost, walk_set}
use Rattle.slot_columns.specs.Rows.{IsBounded, cost_in_slot}
use Rattle.slot_columns.proofs.SetLaws.{indexed}

-- the columns of the day have the sets of the walk
pub day_walk : (grid : Grid) (columns times : List (List ℕ)) (p u : ℕ) → AreOfDay columns times → length grid.rows ≤ 1200 → p < 60 → u < 1440
    → sum_below (length grid.rows) (day_cost grid columns p u) ≡ walk_cost grid.station (cost_at grid.rows) (length grid.rows) p times u
day_walk grid columns times p u of_day short second minute =
    sum_below_same (length grid.rows) (day_cost grid columns p u) (λ k. cost_in_slot grid (walk_set times u p k) k)
    (λ k within.
    ap (λ set. cost_in_slot grid set k) (of_day ((p + k) % 60) (u + (p + k) / 60) (omega arith) (omega arith))
    ∙ indexed grid.station (cost_at grid.rows k) (walk_set times u p k))

-- sums of walks are small
pub walk_costs : (grid : Grid) (table times : List (List ℕ)) → IsBounded grid → AreOfWalks table grid times → AreWalkCosts table grid times
walk_costs grid table times bounded sums = record {
  each = sums;
  small = λ p u second minute.
      omega (
        arith,
        sums p u second minute,
        sum_below_bound (length grid.rows) (grid.receivers * RECEIVER_COST) (λ k. cost_in_slot grid (walk_set times u p k) k)
            (λ k within. bounded.small k (walk_set times u p k) within),
      );
}
