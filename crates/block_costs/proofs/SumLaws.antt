-- Sums over the slots of a walk, minute by minute.
use Rattle.std.proofs.Common.{◌≡◌, ℕ, ◌+◌, ◌-◌, ◌*◌, ◌/◌, ◌%◌, ◌<◌, ◌≤◌, inl, inr, Bool, true, false, ◌==◌, nat_lt, if◌then◌else◌, List, length, get_or, refl, sym, ap, ◌∙◌, subst, arith}
use Rattle.std.proofs.lemmas.Bool.{cases_eq, cases_lt, eq-eqb, eqb-true, eqb-false, le-ltb, lt-ltb, ne_eqb}
use Rattle.std.proofs.Math.Nat.{mul-le-mul_left}
use Rattle.definitions.specs.heard.Costs.{sum_below}
use Rattle.definitions.proofs.CostLaws.{sum_below_bound, sum_below_same}
use Rattle.symbol_cost.specs.Grid.{Grid, cost_at}
use Rattle.symbol_cost.specs.declared.limits.TheConstants.{RECEIVER_COST}
use Rattle.slot_columns.specs.Parts.{minute_cost, most_cost}
use Rattle.minute_parts.specs.Unions.{IsUnionOver}
use Rattle.walk_costs.specs.Walks.{AreSmall}
use Rattle.walk_costs.proofs.SumLaws.{cost_in, sum_of_two}
use Rattle.block_costs.specs.Blocks.{AreUnionsOfWalks, unions_cost}
use Rattle.block_costs.proofs.UnionLaws.{one_set}

-- what the sets cost in the slots of the walk minutes before m
abbrev pub before : Grid → ℕ → ℕ → (ℕ → ℕ) → ℕ → ℕ
before grid p m sets k = if nat_lt ((p + k) / 60) m then cost_in grid k (sets k) else 0

-- the sets of the slots in the walk minutes before m are unions, and cost so much
pub record IsCostBefore (grid : Grid) (announced : Bool) (p lo hi m cost : ℕ) : Type 0 where
  pub sets : ℕ → ℕ
  pub unions : (k : ℕ) → k < length grid.rows → (p + k) / 60 < m
      → IsUnionOver grid.station announced (lo + (p + k) / 60) (hi + (p + k) / 60) ((p + k) % 60) (sets k)
  pub cost_is : cost ≡ sum_below (length grid.rows) (before grid p m sets)

-- what costs so little in each slot
slot_small : (grid : Grid) (p m : ℕ) (sets : ℕ → ℕ) → AreSmall grid → (k : ℕ) → k < length grid.rows → before grid p m sets k ≤ grid.receivers * RECEIVER_COST
slot_small grid p m sets small k lt = by_test (nat_lt ((p + k) / 60) m)
  where
    by_test : (b : Bool) → (if b then cost_in grid k (sets k) else 0) ≤ grid.receivers * RECEIVER_COST
    by_test true = small k (sets k) lt
    by_test false = omega arith

module _ (grid : Grid) (announced : Bool) (p lo hi m cost : ℕ) where
  pub bounded : AreSmall grid → IsCostBefore grid announced p lo hi m cost → cost ≤ most_cost grid
  bounded small is =
      let sum = sum_below_bound (length grid.rows) (grid.receivers * RECEIVER_COST) (before grid p m is.sets) (slot_small grid p m is.sets small) in
      omega (arith, is.cost_is, sum)

  -- the sets with those of one minute more
  abbrev with_minute : (ℕ → ℕ) → List ℕ → ℕ → ℕ
  with_minute sets part k = if (p + k) / 60 == m then get_or part ((p + k) % 60) 0 else sets k

  slot : (sets : ℕ → ℕ) (part : List ℕ) (k : ℕ)
      → before grid p m sets k + (if (p + k) / 60 == m then cost_in grid k (get_or part ((p + k) % 60) 0) else 0)
      ≡ before grid p (m + 1) (with_minute sets part) k
  slot sets part k = elim (cases_eq ((p + k) / 60) m) [
    | inl here ↦ rw (le-ltb ((p + k) / 60) m (omega (arith, here)), eq-eqb ((p + k) / 60) m here, lt-ltb ((p + k) / 60) (m + 1) (omega (arith, here))) (omega arith)
    | inr other ↦ elim (cases_lt ((p + k) / 60) m) [
      | inl early ↦ rw (lt-ltb ((p + k) / 60) m early, ne_eqb ((p + k) / 60) m other, lt-ltb ((p + k) / 60) (m + 1) (omega (arith, early))) (omega arith)
      | inr late ↦ rw (le-ltb ((p + k) / 60) m late, ne_eqb ((p + k) / 60) m other, le-ltb ((p + k) / 60) (m + 1) (omega (arith, late, other))) (omega arith)
    ]
  ]

  union_by : (sets : ℕ → ℕ) (part : List ℕ) (k : ℕ) (b : Bool) → ((p + k) / 60 == m) ≡ b
      → ((k : ℕ) → k < length grid.rows → (p + k) / 60 < m → IsUnionOver grid.station announced (lo + (p + k) / 60) (hi + (p + k) / 60) ((p + k) % 60) (sets k))
      → ((s : ℕ) → s < 60 → IsUnionOver grid.station announced (lo + m) (hi + m) s (get_or part s 0))
      → k < length grid.rows → (p + k) / 60 < m + 1
      → IsUnionOver grid.station announced (lo + (p + k) / 60) (hi + (p + k) / 60) ((p + k) % 60) (if b then get_or part ((p + k) % 60) 0 else sets k)
  union_by sets part k true e old new within early =
      let here = eqb-true ((p + k) / 60) m e in
      subst (λ x. IsUnionOver grid.station announced (lo + x) (hi + x) ((p + k) % 60) (get_or part ((p + k) % 60) 0)) (sym here) (new ((p + k) % 60) (omega arith))
  union_by sets part k false e old new within early =
      let other = eqb-false ((p + k) / 60) m e in
      old k within (omega (arith, early, other))

  pub minute_more : (part : List ℕ) (spent : ℕ) → IsCostBefore grid announced p lo hi m cost
      → ((s : ℕ) → s < 60 → IsUnionOver grid.station announced (lo + m) (hi + m) s (get_or part s 0))
      → spent ≡ minute_cost grid.station (cost_at grid.rows) (length grid.rows) p m part
      → IsCostBefore grid announced p lo hi (m + 1) (cost + spent)
  minute_more part spent is new price =
      let f = before grid p m is.sets in
      let g = λ (k : ℕ). if (p + k) / 60 == m then cost_in grid k (get_or part ((p + k) % 60) 0) else 0 in
      let n : ℕ = length grid.rows in
      let same = sum_below_same (length grid.rows) (λ k. f k + g k) (before grid p (m + 1) (with_minute is.sets part)) (λ k lt. slot is.sets part k) in
      record {
        sets = with_minute is.sets part;
        unions = λ k within early. union_by is.sets part k ((p + k) / 60 == m) refl is.unions new within early;
        cost_is = omega (arith, is.cost_is, price, sum_of_two n f g, same);
      }

  -- where these are all slots, the cost is that of their unions
  pub all_minutes : p < 60 → (p + length grid.rows - 1) / 60 < m → IsCostBefore grid announced p lo hi m cost
      → (sets : ℕ → ℕ) → AreUnionsOfWalks grid.station announced p lo hi (length grid.rows) sets → cost ≡ unions_cost grid sets
  all_minutes low last is sets are =
      is.cost_is
      ∙ sum_below_same (length grid.rows) (before grid p m is.sets) (λ k. cost_in grid k (sets k)) (λ k lt.
      let early : (p + k) / 60 < m = omega (arith, lt, last) in
      ap (λ (b : Bool). if b then cost_in grid k (is.sets k) else 0) (lt-ltb ((p + k) / 60) m early)
      ∙ ap (cost_in grid k)
      (one_set grid.station announced p lo hi (length grid.rows) sets are k ((p + k) / 60) ((p + k) % 60) (is.sets k) lt refl refl (is.unions k lt early)))

-- nothing before the first minute
pub none_yet : (grid : Grid) (announced : Bool) (p lo hi : ℕ) → IsCostBefore grid announced p lo hi 0 0
none_yet grid announced p lo hi =
    let zeros = sum_below_bound (length grid.rows) 0 (before grid p 0 (λ k. 0)) (λ k lt. omega (arith, ap (λ (b : Bool). if b then cost_in grid k 0 else 0) (le-ltb ((p + k) / 60) 0 (omega arith)))) in
    record { sets = λ k. 0; unions = λ k within early. absurd (omega (arith, early)); cost_is = omega (arith, zeros) }

-- the most that a grid may cost fits
pub most_fits : (grid : Grid) → length grid.rows ≤ 1200 → grid.receivers ≤ 8 → most_cost grid ≤ 1_920_000_000
most_fits grid short few =
    let small : grid.receivers * RECEIVER_COST ≤ 1_600_000 = omega (arith, few) in
    omega (arith, short, mul-le-mul_left (length grid.rows) small)
