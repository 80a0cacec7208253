-- What walks cost whose first minutes carry one part and whose later minutes another.
use Rattle.std.proofs.Common.{◌≡◌, ℕ, ◌+◌, ◌-◌, ◌*◌, ◌/◌, ◌%◌, ◌<◌, ◌≤◌, Bool, true, false, nat_lt, if◌then◌else◌, List, length, get_or, refl, sym, ap, ◌∙◌, arith}
use Rattle.std.proofs.lemmas.Bool.{le-ltb, lt-ltb, ltb-true}
use Rattle.definitions.specs.heard.Costs.{sum_below}
use Rattle.definitions.proofs.CostLaws.{sum_below_bound, sum_below_none, sum_below_more, sum_below_same}
use Rattle.symbol_cost.specs.Grid.{Grid, cost_at}
use Rattle.symbol_cost.specs.declared.limits.TheConstants.{RECEIVER_COST}
use Rattle.slot_columns.specs.Parts.{layered_cost, layered_set, split_cost, split_set}
use Rattle.slot_columns.specs.Rows.{IsBounded, cost_in_slot}
use Rattle.slot_columns.specs.Tables.{at_place, in_front}
use Rattle.slot_columns.proofs.ColumnLaws.{by_columns, most_fits}
use Rattle.slot_columns.proofs.PlaceLaws.{after_walk, before_walk, in_walk}
use Rattle.slot_columns.proofs.SumLaws.{sum_in_two, sum_of_fewer}

-- where all minutes carry one part, slot k has what that has for its second
pub one_layer : (p : ℕ) (part : List ℕ) (k : ℕ) → layered_set p part part k ≡ get_or part ((p + k) % 60) 0
one_layer p part k = by_test (nat_lt (p + k) 60) refl
  where
    by_test : (t : Bool) → nat_lt (p + k) 60 ≡ t → (if t then get_or part (p + k) 0 else get_or part ((p + k) % 60) 0) ≡ get_or part ((p + k) % 60) 0
    by_test true e =
        let early = ltb-true (p + k) 60 e in
        let same : p + k ≡ (p + k) % 60 = omega arith in
        ap (λ s. get_or part s 0) same
    by_test false e = refl

-- terms of two kinds, the one up to, and without, term b
pub sum_of_kinds : (n b : ℕ) (f g : ℕ → ℕ) → b ≤ n → sum_below n (λ m. if nat_lt m b then f m else g m) + sum_below b g ≡ sum_below n g + sum_below b f
sum_of_kinds n b f g le =
    let h = λ (m : ℕ). if nat_lt m b then f m else g m in
    let whole : b + (n - b) ≡ n = omega arith in
    let early = sum_below_same b h f (λ m lt. ap (λ (t : Bool). if t then f m else g m) (lt-ltb m b lt)) in
    let late = sum_below_same (n - b) (λ m. h (b + m)) (λ m. g (b + m)) (λ m lt. ap (λ (t : Bool). if t then f (b + m) else g (b + m)) (le-ltb (b + m) b (omega arith))) in
    omega (arith, ap (λ x. sum_below x h) whole, ap (λ x. sum_below x g) whole, sum_in_two b (n - b) h, sum_in_two b (n - b) g, early, late)

module _ (grid : Grid) (p : ℕ) (before after : List ℕ) where
  abbrev pub n : ℕ
  n = length grid.rows

  abbrev pub cost : ℕ → ℕ
  cost b = split_cost grid.station (cost_at grid.rows) n p b before after

  -- what second s costs in all minutes
  abbrev pub column : ℕ → ℕ → ℕ
  column b s = sum_below 21 (λ m. if nat_lt m b then at_place grid p (get_or before s 0) (60 * m + s) else at_place grid p (get_or after s 0) (60 * m + s))

  -- the cost where the sets of the seconds before second s are changed, and the others not yet
  abbrev pub IsChanged : ℕ → ℕ → ℕ → Type 0
  IsChanged b s sum = sum + sum_below s (column 0) ≡ cost 0 + sum_below s (column b)

  -- where no minute carries the first part
  pub none_before : layered_cost grid.station (cost_at grid.rows) n p after after ≡ cost 0
  none_before =
      sum_below_same n (λ k. cost_in_slot grid (layered_set p after after k) k) (λ k. cost_in_slot grid (split_set p 0 before after k) k)
      (λ k within.
      ap (λ set. cost_in_slot grid set k)
      (one_layer p after k ∙ sym (ap (λ (t : Bool). get_or (if t then before else after) ((p + k) % 60) 0) (le-ltb ((p + k) / 60) 0 (omega arith)))))

  module _ (bounded : IsBounded grid) (second : p < 60) where
    pub small : (b : ℕ) → cost b ≤ 1_920_000_000
    small b =
        omega (
          arith,
          sum_below_bound n (grid.receivers * RECEIVER_COST) (λ k. cost_in_slot grid (split_set p b before after k) k)
              (λ k within. bounded.small k (split_set p b before after k) within),
          most_fits grid bounded,
        )

    -- the set at place i, and that of second s of walk minute m
    set_of : ℕ → ℕ → ℕ
    set_of b i = get_or (if nat_lt (i / 60) b then before else after) (i % 60) 0

    at : ℕ → ℕ → ℕ
    at b i = at_place grid p (set_of b i) i

    in_column : (b m s : ℕ) → s < 60
        → at b (60 * m + s) ≡ (if nat_lt m b then at_place grid p (get_or before s 0) (60 * m + s) else at_place grid p (get_or after s 0) (60 * m + s))
    unfolding set_of at
    in_column b m s lt =
        let i : ℕ = 60 * m + s in
        let minute : i / 60 ≡ m = omega arith in
        let here : i % 60 ≡ s = omega arith in
        ap (λ x. at_place grid p (get_or (if nat_lt x b then before else after) (i % 60) 0) i) minute
        ∙ ap (λ x. at_place grid p (get_or (if nat_lt m b then before else after) x 0) i) here
        ∙ by_test i (nat_lt m b)
      where
        by_test : (i : ℕ) (t : Bool) → at_place grid p (get_or (if t then before else after) s 0) i ≡ (if t then at_place grid p (get_or before s 0) i else at_place grid p (get_or after s 0) i)
        by_test i true = refl
        by_test i false = refl

    -- the cost, second by second
    pub by_column : (b : ℕ) → cost b ≡ sum_below 60 (column b)
    unfolding set_of at
    by_column b =
        sym (sum_below_same n (λ k. at b (p + k)) (λ k. cost_in_slot grid (split_set p b before after k) k)
        (λ k within. in_walk grid p (set_of b (p + k)) k within))
        ∙ by_columns (at b) p n second bounded.short (λ i lt. before_walk grid p (set_of b i) i lt) (λ i le. after_walk grid p (set_of b i) i le)
        ∙ sum_below_same 60 (λ s. sum_below 21 (λ m. at b (60 * m + s))) (column b)
        (λ s lt. sum_below_same 21 (λ m. at b (60 * m + s))
        (λ m. if nat_lt m b then at_place grid p (get_or before s 0) (60 * m + s) else at_place grid p (get_or after s 0) (60 * m + s)) (λ m few. in_column b m s lt))

    -- one set in the place of the other in the first minutes
    pub changed : (b s : ℕ) → b < 21 → column b s + in_front grid p s (get_or after s 0) b ≡ column 0 s + in_front grid p s (get_or before s 0) b
    changed b s few =
        let f = λ (m : ℕ). at_place grid p (get_or before s 0) (60 * m + s) in
        let g = λ (m : ℕ). at_place grid p (get_or after s 0) (60 * m + s) in
        omega (arith, sum_of_kinds 21 b f g (omega arith), sum_of_kinds 21 0 f g (omega arith), sum_below_none f, sum_below_none g)

    pub none_changed : (b : ℕ) → IsChanged b 0 (cost 0)
    none_changed b = omega (arith, sum_below_none (column 0), sum_below_none (column b))

    pub all_changed : (b sum : ℕ) → IsChanged b 60 sum → sum ≡ cost b
    all_changed b sum is = omega (arith, is, by_column 0, by_column b)

    module _ (b s sum : ℕ) (few : b < 21) (lt : s < 60) (is : IsChanged b s sum) where
      pub one_changed : (next : ℕ) → next + in_front grid p s (get_or after s 0) b ≡ sum + in_front grid p s (get_or before s 0) b → IsChanged b (s + 1) next
      one_changed next change = omega (arith, is, change, changed b s few, sum_below_more s (column 0), sum_below_more s (column b))

      -- what is taken away was counted
      pub counted : in_front grid p s (get_or after s 0) b ≤ sum
      counted =
          let f = λ (m : ℕ). at_place grid p (get_or before s 0) (60 * m + s) in
          let g = λ (m : ℕ). at_place grid p (get_or after s 0) (60 * m + s) in
          omega (
            arith,
            is,
            by_column 0,
            sum_of_fewer (s + 1) 60 (column 0) (omega arith),
            sum_below_more s (column 0),
            sum_of_kinds 21 0 f g (omega arith),
            sum_below_none f,
            sum_below_none g,
            sum_of_fewer b 21 g (omega arith),
          )

      -- and what is added fits
      pub room : sum + in_front grid p s (get_or before s 0) b ≤ 3_840_000_000
      room =
          omega (
            arith,
            is,
            small 0,
            small b,
            by_column b,
            sum_of_fewer (s + 1) 60 (column b) (omega arith),
            sum_below_more s (column b),
            changed b s few,
            in_column_0,
          )
        where
          in_column_0 : in_front grid p s (get_or after s 0) b ≤ column 0 s
          in_column_0 =
              let f = λ (m : ℕ). at_place grid p (get_or before s 0) (60 * m + s) in
              let g = λ (m : ℕ). at_place grid p (get_or after s 0) (60 * m + s) in
              omega (arith, sum_of_kinds 21 0 f g (omega arith), sum_below_none f, sum_below_none g, sum_of_fewer b 21 g (omega arith))
