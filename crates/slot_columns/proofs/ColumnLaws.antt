-- What the columns have of a walk is what its slots cost.
use Rattle.std.proofs.Common.{◌≡◌, ℕ, ◌+◌, ◌-◌, ◌*◌, ◌/◌, ◌%◌, ◌<◌, ◌≤◌, Bool, nat_lt, if◌then◌else◌, List, length, get_or, sym, ap, ◌∙◌, arith}
use Rattle.std.proofs.lemmas.Bool.{le-ltb, lt-ltb}
use Rattle.std.proofs.Math.Nat.{mul-le-mul_left}
use Rattle.definitions.specs.heard.Costs.{sum_below}
use Rattle.definitions.proofs.CostLaws.{sum_below_bound, sum_below_same}
use Rattle.symbol_cost.specs.Grid.{Grid, cost_at}
use Rattle.symbol_cost.specs.declared.limits.TheConstants.{RECEIVER_COST}
use Rattle.slot_columns.specs.Parts.{entry, layered_cost, layered_set, most_cost}
use Rattle.slot_columns.specs.Rows.{IsBounded, cost_in_slot, index_of}
use Rattle.slot_columns.specs.Tables.{AreColumns, AreTables, at_place, column_cost, columns_cost, in_first, in_later}
use Rattle.slot_columns.proofs.PlaceLaws.{after_walk, at_index, before_walk, in_walk}
use Rattle.slot_columns.proofs.SetLaws.{index_bound}
use Rattle.slot_columns.proofs.SumLaws.{sum_after_first, sum_by_rows, sum_in_two, sum_of_none, sum_to_later, sum_turned}

-- A sum over the slots of a walk is one over its seconds, minute by minute. Slot k is at place p + k, and outside the walk
-- there is nothing.
pub by_columns : (g : ℕ → ℕ) (p n : ℕ) → p < 60 → n ≤ 1200 → ((i : ℕ) → i < p → g i ≡ 0) → ((i : ℕ) → p + n ≤ i → g i ≡ 0)
    → sum_below n (λ k. g (p + k)) ≡ sum_below 60 (λ s. sum_below 21 (λ m. g (60 * m + s)))
by_columns g p n second short before after =
    let walk = λ (k : ℕ). g (p + k) in
    let left : ℕ = 1260 - p in
    let whole : p + left ≡ 1260 = omega arith in
    let slots : sum_below left walk ≡ sum_below n walk = sum_to_later n left walk (omega arith) (λ k le lt. after (p + k) (omega arith)) in
    let places : sum_below 1260 g ≡ sum_below n walk =
    ap (λ m. sum_below m g) (sym whole) ∙ sum_in_two p left g ∙ ap (λ c. c + sum_below left walk) (sum_of_none p g before) ∙ omega (arith, slots) in
    sym places ∙ sum_by_rows 21 g ∙ sum_turned 21 60 (λ m s. g (60 * m + s))

-- what lies in walk minute 0, and what in later ones
pub by_seconds : (g : ℕ → ℕ) (p n : ℕ) → p < 60 → n ≤ 1200 → ((i : ℕ) → i < p → g i ≡ 0) → ((i : ℕ) → p + n ≤ i → g i ≡ 0)
    → sum_below n (λ k. g (p + k)) ≡ sum_below 60 (λ s. g s + sum_below 20 (λ m. g (60 * (m + 1) + s)))
by_seconds g p n second short before after =
    by_columns g p n second short before after
    ∙ sum_below_same 60 (λ s. sum_below 21 (λ m. g (60 * m + s))) (λ s. g s + sum_below 20 (λ m. g (60 * (m + 1) + s)))
    (λ s lt. sum_after_first 20 (λ m. g (60 * m + s)) ∙ ap (λ i. g i + sum_below 20 (λ m. g (60 * (m + 1) + s))) (omega arith))

-- the set at place i, where walk minute 0 carries one part and each later minute another
abbrev set_of : List ℕ → List ℕ → ℕ → ℕ
set_of a b i = if nat_lt i 60 then get_or a i 0 else get_or b (i % 60) 0

set_in_first : (a b : List ℕ) (s : ℕ) → s < 60 → set_of a b s ≡ get_or a s 0
set_in_first a b s lt = ap (λ (t : Bool). if t then get_or a s 0 else get_or b (s % 60) 0) (lt-ltb s 60 lt)

set_in_later : (a b : List ℕ) (m s : ℕ) → s < 60 → set_of a b (60 * (m + 1) + s) ≡ get_or b s 0
set_in_later a b m s lt =
    let i = 60 * (m + 1) + s in
    let second : i % 60 ≡ s = omega arith in
    ap (λ (t : Bool). if t then get_or a i 0 else get_or b (i % 60) 0) (le-ltb i 60 (omega arith)) ∙ ap (λ x. get_or b x 0) second

-- the entry of first second p and second s
pub column_at : (columns : List (List ℕ)) (cost : ℕ → ℕ → ℕ → ℕ) → AreColumns columns cost → (p s set : ℕ) → p < 60 → s < 60
    → entry columns (60 * p + s) (index_of set) ≡ cost p s (index_of set)
column_at columns cost are p s set first second =
    let i : ℕ = 60 * p + s in
    let begin : i / 60 ≡ p = omega arith in
    let there : i % 60 ≡ s = omega arith in
    are.each i (index_of set) (omega arith) (index_bound set)
    ∙ ap (λ q. cost q (i % 60) (index_of set)) begin ∙ ap (λ x. cost p x (index_of set)) there

module _ (grid : Grid) (first later : List (List ℕ)) (tables : AreTables grid first later) (p : ℕ) (second : p < 60) (a b : List ℕ) where
  -- what the set at place i costs
  at : ℕ → ℕ
  at i = at_place grid p (set_of a b i) i

  in_minute : (s : ℕ) → s < 60 → entry first (60 * p + s) (index_of (get_or a s 0)) ≡ at s
  unfolding at
  in_minute s lt =
      column_at first (in_first grid) tables.in_first p s (get_or a s 0) second lt ∙ at_index grid p (get_or a s 0) s
      ∙ ap (λ x. at_place grid p x s) (sym (set_in_first a b s lt))

  in_minutes : (s : ℕ) → s < 60 → entry later (60 * p + s) (index_of (get_or b s 0)) ≡ sum_below 20 (λ m. at (60 * (m + 1) + s))
  unfolding at
  in_minutes s lt =
      let set = get_or b s 0 in
      column_at later (in_later grid) tables.in_later p s set second lt
      ∙ sum_below_same 20 (λ m. at_place grid p (index_of set) (60 * (m + 1) + s)) (λ m. at (60 * (m + 1) + s))
      (λ m few. at_index grid p set (60 * (m + 1) + s) ∙ ap (λ x. at_place grid p x (60 * (m + 1) + s)) (sym (set_in_later a b m s lt)))

  -- the columns have what the walk costs
  pub layered : columns_cost first later p a b ≡ layered_cost grid.station (cost_at grid.rows) (length grid.rows) p a b
  unfolding at
  layered =
      sum_below_same 60 (column_cost first later p a b) (λ s. at s + sum_below 20 (λ m. at (60 * (m + 1) + s)))
      (λ s lt. omega (arith, in_minute s lt, in_minutes s lt))
      ∙ sym (by_seconds at p (length grid.rows) second tables.bounded.short (λ i lt. before_walk grid p (set_of a b i) i lt)
      (λ i le. after_walk grid p (set_of a b i) i le))
      ∙ sym (sum_below_same (length grid.rows) (λ k. cost_in_slot grid (layered_set p a b k) k) (λ k. at (p + k))
      (λ k within. sym (in_walk grid p (layered_set p a b k) k within)))

  -- which is small
  pub layered_bound : columns_cost first later p a b ≤ most_cost grid
  layered_bound =
      omega (
        arith,
        layered,
        sum_below_bound (length grid.rows) (grid.receivers * RECEIVER_COST) (λ k. cost_in_slot grid (layered_set p a b k) k)
            (λ k within. tables.bounded.small k (layered_set p a b k) within),
      )

-- and fits a word of 32 bits
pub most_fits : (grid : Grid) → IsBounded grid → most_cost grid ≤ 1_920_000_000
most_fits grid bounded =
    let small : grid.receivers * RECEIVER_COST ≤ 1_600_000 = omega (arith, bounded.few) in
    omega (arith, bounded.short, mul-le-mul_left (length grid.rows) small)

-- the columns as they are passed on
pub same_columns : (first passed_first later passed_later : List (List ℕ)) (p : ℕ) (a b : List ℕ) → passed_first ≡ first → passed_later ≡ later
    → columns_cost passed_first passed_later p a b ≡ columns_cost first later p a b
same_columns first passed_first later passed_later p a b one two =
    ap (λ (t : List (List ℕ)). columns_cost t passed_later p a b) one ∙ ap (λ (t : List (List ℕ)). columns_cost first t p a b) two
