-- Sums over the slots of a walk.
use Rattle.std.proofs.Common.{◌≡◌, ℕ, zero, suc, ◌+◌, ◌*◌, ◌%◌, ◌<◌, ◌≤◌, List, length, map, get_or, refl, ap, ◌∙◌, arith}
use Rattle.std.proofs.Math.Nat.{mul-le-mul_left}
use Rattle.std.specs.List.{range_with_len}
use Rattle.std.proofs.lemmas.List.FromFn.{get_or-map-range_with_len}
use Rattle.definitions.specs.heard.Costs.{set_cost, sum_below}
use Rattle.definitions.proofs.CostLaws.{sum_below_same}
use Rattle.symbol_cost.specs.Grid.{Grid, cost_at}
use Rattle.symbol_cost.specs.declared.limits.TheConstants.{RECEIVER_COST}
use Rattle.slot_columns.specs.Parts.{layered_set, most_cost}
use Rattle.slot_columns.proofs.SplitLaws.{one_layer}
use Rattle.walk_costs.specs.Dates.{part_cost}

-- a sum of lesser terms
pub sum_le : (n : ℕ) (f g : ℕ → ℕ) → ((k : ℕ) → k < n → f k ≤ g k) → sum_below n f ≤ sum_below n g
unfolding sum_below
sum_le zero f g less = omega arith
sum_le (suc n) f g less = omega (arith, sum_le n f g (λ k h. less k (omega arith)), less n (omega arith))

-- a sum of sums
pub sum_of_two : (n : ℕ) (f g : ℕ → ℕ) → sum_below n (λ k. f k + g k) ≡ sum_below n f + sum_below n g
unfolding sum_below
sum_of_two zero f g = refl
sum_of_two (suc n) f g = omega (arith, sum_of_two n f g)

-- two sums that are together two others
pub sums_of_two : (n : ℕ) (f g h i : ℕ → ℕ) → ((k : ℕ) → k < n → f k + g k ≡ h k + i k) → sum_below n f + sum_below n g ≡ sum_below n h + sum_below n i
sums_of_two n f g h i same =
    omega (arith, sum_of_two n f g, sum_of_two n h i, sum_below_same n (λ k. f k + g k) (λ k. h k + i k) same)

-- the most that slots can cost is a number of 32 bits
pub most_of_few : (grid : Grid) → grid.receivers ≤ 8 → length grid.rows ≤ 1200 → most_cost grid ≤ 1_920_000_000
most_of_few grid few short =
    let small : grid.receivers * RECEIVER_COST ≤ 1_600_000 = omega (arith, few) in
    omega (arith, short, mul-le-mul_left (length grid.rows) small)

-- what a set costs in a slot
abbrev pub cost_in : Grid → ℕ → ℕ → ℕ
cost_in grid k set = set_cost grid.station (cost_at grid.rows k) set

-- what a part costs that each minute carries
pub part_by_second : (grid : Grid) (p : ℕ) (part : List ℕ)
    → part_cost grid p part ≡ sum_below (length grid.rows) (λ k. cost_in grid k (get_or part ((p + k) % 60) 0))
part_by_second grid p part =
    sum_below_same (length grid.rows) (λ k. cost_in grid k (layered_set p part part k)) (λ k. cost_in grid k (get_or part ((p + k) % 60) 0))
    (λ k within. ap (cost_in grid k) (one_layer p part k))

-- what a part that is made by seconds has for a slot
pub at_second : (f : ℕ → ℕ) (part : List ℕ) (s : ℕ) → part ≡ map f (range_with_len 0 60) → s < 60 → get_or part s 0 ≡ f s
at_second f part s made lt = ap (λ xs. get_or xs s 0) made ∙ get_or-map-range_with_len f 0 60 s s 0 lt (omega arith)

-- and what it costs
pub made_part : (grid : Grid) (p : ℕ) (f : ℕ → ℕ) (part : List ℕ) → part ≡ map f (range_with_len 0 60)
    → part_cost grid p part ≡ sum_below (length grid.rows) (λ k. cost_in grid k (f ((p + k) % 60)))
made_part grid p f part made =
    part_by_second grid p part
    ∙ sum_below_same (length grid.rows) (λ k. cost_in grid k (get_or part ((p + k) % 60) 0)) (λ k. cost_in grid k (f ((p + k) % 60)))
    (λ k within. ap (cost_in grid k) (at_second f part ((p + k) % 60) made (omega arith)))
