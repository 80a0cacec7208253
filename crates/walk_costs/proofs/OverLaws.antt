-- What the time of day costs in a walk over a change of the local time, walk minute by walk minute.
use Rattle.std.proofs.Common.{◌≡◌, ℕ, ◌+◌, ◌/◌, ◌%◌, inl, inr, Bool, ◌==◌, nat_lt, if◌then◌else◌, List, [], slice_index_or, length, get_or, ap, arith}
use Rattle.std.proofs.lemmas.Bool.{cases_lt, eq-eqb, le-ltb, lt-ltb, ne_eqb}
use Rattle.definitions.specs.heard.Costs.{sum_below}
use Rattle.definitions.proofs.CostLaws.{sum_below_bound, sum_below_same}
use Rattle.symbol_cost.specs.Grid.{Grid, cost_at}
use Rattle.minute_parts.specs.Walks.{later_minutes}
use Rattle.slot_columns.specs.Parts.{cost_in_minute, minute_cost}
use Rattle.walk_costs.specs.Changes.{cost_in_slot_over, cost_over, time_over}
use Rattle.walk_costs.proofs.SumLaws.{cost_in, sum_of_two}

module _ (grid : Grid) (times : List (List ℕ)) (u v b p : ℕ) where
  abbrev n : ℕ
  n = length grid.rows

  abbrev slot_cost : ℕ → ℕ
  slot_cost = cost_in_slot_over grid times u v b p

  -- what the time of day tells in a walk minute
  abbrev part_over : ℕ → List ℕ
  part_over m = slice_index_or times (time_over u v b m) []

  -- in the walk minutes before minute m
  abbrev pub minutes_before : ℕ → ℕ
  minutes_before m = sum_below n (λ k. if nat_lt ((p + k) / 60) m then slot_cost k else 0)

  pub none_before : minutes_before 0 ≡ 0
  none_before =
      let none = sum_below_bound n 0 (λ k. if nat_lt ((p + k) / 60) 0 then slot_cost k else 0)
      (λ k within. rw (le-ltb ((p + k) / 60) 0 (omega arith)) (omega arith)) in
      omega (arith, none)

  pub one_more_minute : (m : ℕ) → minutes_before (m + 1) ≡ minutes_before m + minute_cost grid.station (cost_at grid.rows) n p m (part_over m)
  one_more_minute m =
      let both = sum_below_same n (λ k. if nat_lt ((p + k) / 60) (m + 1) then slot_cost k else 0)
      (λ k. (if nat_lt ((p + k) / 60) m then slot_cost k else 0) + cost_in_minute grid.station (cost_at grid.rows) p m (part_over m) k)
      (λ k within. slot ((p + k) / 60) (slot_cost k) (cost_in grid k (get_or (part_over m) ((p + k) % 60) 0))
      (λ here. ap (λ (j : ℕ). cost_in grid k (get_or (part_over j) ((p + k) % 60) 0)) here)) in
      omega (
        arith,
        both,
        sum_of_two n (λ k. if nat_lt ((p + k) / 60) m then slot_cost k else 0) (cost_in_minute grid.station (cost_at grid.rows) p m (part_over m)),
      )
    where
      slot : (j cost there : ℕ) → (j ≡ m → cost ≡ there) → (if nat_lt j (m + 1) then cost else 0) ≡ (if nat_lt j m then cost else 0) + (if j == m then there else 0)
      slot j cost there same = elim (cases_lt j m) [
        | inl lt ↦ rw (lt-ltb j (m + 1) (omega arith), lt-ltb j m lt, ne_eqb j m (λ e. omega (arith, e, lt))) (omega arith)
        | inr le ↦ elim (cases_lt m j) [
          | inl more ↦ rw (le-ltb j (m + 1) (omega arith), le-ltb j m le, ne_eqb j m (λ e. omega (arith, e, more))) (omega arith)
          | inr less ↦ (let here : j ≡ m = omega arith in rw (lt-ltb j (m + 1) (omega arith), le-ltb j m le, eq-eqb j m here) (omega (arith, same here)))
        ]
      ]

  -- in all minutes of the walk
  pub all_minutes : (m : ℕ) → m ≡ later_minutes n p + 1 → minutes_before m ≡ cost_over grid times u v b p
  all_minutes m all =
      sum_below_same n (λ k. if nat_lt ((p + k) / 60) m then slot_cost k else 0) slot_cost
      (λ k within. ap (λ (t : Bool). if t then slot_cost k else 0) (lt-ltb ((p + k) / 60) m (omega (arith, within, all))))
