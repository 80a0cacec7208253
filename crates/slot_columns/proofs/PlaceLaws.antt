-- What a set costs at the places of a walk.
use Rattle.std.proofs.Common.{◌≡◌, ℕ, ◌+◌, ◌-◌, ◌<◌, ◌≤◌, inl, inr, Bool, true, false, ◌&&◌, nat_le, nat_lt, if◌then◌else◌, length, refl, ap, ◌∙◌, arith}
use Rattle.std.proofs.lemmas.Bool.{and_from, and_left, and_right, cases_lt, le-leb, le-ltb, lt-leb, lt-ltb}
use Rattle.symbol_cost.specs.Grid.{Grid, cost_at}
use Rattle.slot_columns.specs.Rows.{cost_in_slot, index_of}
use Rattle.slot_columns.specs.Tables.{at_place}
use Rattle.slot_columns.proofs.SetLaws.{indexed, none_chosen}

module _ (grid : Grid) (p set : ℕ) where
  by_test : (i : ℕ) (t : Bool) → (nat_le p i && nat_lt (i - p) (length grid.rows)) ≡ t → at_place grid p set i ≡ (if t then cost_in_slot grid set (i - p) else 0)
  by_test i t is = ap (λ (b : Bool). if b then cost_in_slot grid set (i - p) else 0) is

  -- slot k is at place p + k
  pub in_walk : (k : ℕ) → k < length grid.rows → at_place grid p set (p + k) ≡ cost_in_slot grid set k
  in_walk k within =
      let back : p + k - p ≡ k = omega arith in
      by_test (p + k) _ (and_from (nat_le p (p + k)) (nat_lt (p + k - p) (length grid.rows)) (le-leb p (p + k) (omega arith)) (lt-ltb (p + k - p) (length grid.rows) (omega arith)))
      ∙ ap (cost_in_slot grid set) back

  -- outside the walk there is none
  pub before_walk : (i : ℕ) → i < p → at_place grid p set i ≡ 0
  before_walk i before = by_test i _ (and_left (nat_le p i) (nat_lt (i - p) (length grid.rows)) (lt-leb p i before))

  pub after_walk : (i : ℕ) → p + length grid.rows ≤ i → at_place grid p set i ≡ 0
  after_walk i after = by_test i _ (and_right (nat_le p i) (nat_lt (i - p) (length grid.rows)) (le-ltb (i - p) (length grid.rows) (omega arith)))

  -- a set costs what stands in a row at its index
  pub at_index : (i : ℕ) → at_place grid p (index_of set) i ≡ at_place grid p set i
  at_index i =
      ap (λ c. if nat_le p i && nat_lt (i - p) (length grid.rows) then c else 0) (indexed grid.station (cost_at grid.rows (i - p)) set)

  -- it costs no more than any set does in a slot
  pub place_bound : (i b : ℕ) → ((k x : ℕ) → k < length grid.rows → cost_in_slot grid x k ≤ b) → at_place grid p set i ≤ b
  place_bound i b small = elim (cases_lt i p) [
    | inl before ↦ omega (arith, before_walk i before)
    | inr le ↦ elim (cases_lt (i - p) (length grid.rows)) [
      | inl lt ↦ omega (arith, by_test i _ (and_from (nat_le p i) (nat_lt (i - p) (length grid.rows)) (le-leb p i le) (lt-ltb (i - p) (length grid.rows) lt)), small (i - p) set lt)
      | inr past ↦ omega (arith, after_walk i (omega (arith, le, past)))
    ]
  ]

-- the set without symbols costs nothing
pub place_free : (grid : Grid) (p i : ℕ) → at_place grid p 0 i ≡ 0
place_free grid p i = by_test (nat_le p i && nat_lt (i - p) (length grid.rows))
  where
    by_test : (t : Bool) → (if t then cost_in_slot grid 0 (i - p) else 0) ≡ 0
    by_test true = none_chosen grid.station (cost_at grid.rows (i - p))
    by_test false = refl
