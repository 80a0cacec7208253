-- What the date costs in the seconds that are given up for the call sign, walk minute by walk minute, and in the others.
use Rattle.std.proofs.Common.{◌≡◌, ℕ, ◌+◌, ◌*◌, ◌/◌, ◌%◌, ◌<◌, ◌≤◌, inl, inr, Bool, true, false, ◌==◌, nat_lt, if◌then◌else◌, List, length, get_or, refl, sym, ap, ◌∙◌, arith}
use Rattle.std.proofs.lemmas.Bool.{cases_lt, eq-eqb, le-ltb, lt-ltb, ne_eqb}
use Rattle.definitions.specs.heard.Costs.{sum_below}
use Rattle.definitions.proofs.CostLaws.{sum_below_bound, sum_below_same}
use Rattle.symbol_cost.specs.Grid.{Grid, cost_at}
use Rattle.symbol_cost.specs.declared.limits.TheConstants.{RECEIVER_COST}
use Rattle.slot_columns.specs.Parts.{minute_cost, most_cost}
use Rattle.slot_columns.proofs.SetLaws.{none_chosen}
use Rattle.minute_parts.specs.Overlay.{is_given_up}
use Rattle.walk_costs.specs.Dates.{date_cost, given_cost, given_up, given_up_set, kept, kept_set, part_cost}
use Rattle.minute_parts.specs.Walks.{later_minutes}
use Rattle.walk_costs.specs.Walks.{AreSmall}
use Rattle.walk_costs.proofs.SumLaws.{cost_in, made_part, part_by_second, sum_le, sum_of_two}
use Rattle.walk_costs.proofs.WalkLaws.{lost, lost_sum}

module _ (grid : Grid) (p : ℕ) (part : List ℕ) where
  abbrev pub n : ℕ
  n = length grid.rows

  pub part_bound : AreSmall grid → part_cost grid p part ≤ most_cost grid
  part_bound small =
      let bound = sum_below_bound n (grid.receivers * RECEIVER_COST) (λ k. cost_in grid k (get_or part ((p + k) % 60) 0))
      (λ k within. small k (get_or part ((p + k) % 60) 0) within) in
      omega (arith, bound, part_by_second grid p part)

  -- what a second costs that is given up
  abbrev pub given : ℕ → ℕ
  given k = cost_in grid k (given_up_set grid.station part ((p + k) % 60))

  pub given_sum : part_cost grid p (given_up grid.station part) ≡ sum_below n given
  unfolding given_up
  given_sum = made_part grid p (given_up_set grid.station part) (given_up grid.station part) refl

  -- each second is given up or kept
  pub kept_and_given : part_cost grid p part ≡ part_cost grid p (kept grid.station part) + part_cost grid p (given_up grid.station part)
  unfolding kept
  kept_and_given =
      let rest = made_part grid p (kept_set grid.station part) (kept grid.station part) refl in
      let both = sum_below_same n (λ k. cost_in grid k (get_or part ((p + k) % 60) 0))
      (λ k. cost_in grid k (kept_set grid.station part ((p + k) % 60)) + given k)
      (λ k within. slot k (get_or part ((p + k) % 60) 0) (is_given_up grid.station ((p + k) % 60))) in
      omega (arith, both, part_by_second grid p part, rest, given_sum, sum_of_two n (λ k. cost_in grid k (kept_set grid.station part ((p + k) % 60))) given)
    where
      slot : (k set : ℕ) (gives : Bool) → cost_in grid k set ≡ cost_in grid k (if gives then 0 else set) + cost_in grid k (if gives then set else 0)
      slot k set true = omega (arith, none_chosen grid.station (cost_at grid.rows k))
      slot k set false = omega (arith, none_chosen grid.station (cost_at grid.rows k))

  -- nothing is lost where the station keeps all seconds
  pub none_given : ((s : ℕ) → is_given_up grid.station s ≡ false) → part_cost grid p (given_up grid.station part) ≡ 0
  none_given keeps =
      let none = sum_below_bound n 0 given (λ k within. rw (keeps ((p + k) % 60)) (omega (arith, none_chosen grid.station (cost_at grid.rows k)))) in
      omega (arith, none, given_sum)

  -- in the walk minutes before minute m
  abbrev pub lost_before : ℕ → ℕ
  lost_before m = sum_below n (λ k. if nat_lt ((p + k) / 60) m then given k else 0)

  pub none_before : lost_before 0 ≡ 0
  none_before =
      let none = sum_below_bound n 0 (λ k. if nat_lt ((p + k) / 60) 0 then given k else 0)
      (λ k within. rw (le-ltb ((p + k) / 60) 0 (omega arith)) (omega arith)) in
      omega (arith, none)

  pub one_more_lost : (m : ℕ) → lost_before (m + 1) ≡ lost_before m + minute_cost grid.station (cost_at grid.rows) n p m (given_up grid.station part)
  one_more_lost m =
      let both = sum_below_same n (λ k. if nat_lt ((p + k) / 60) (m + 1) then given k else 0)
      (λ k. (if nat_lt ((p + k) / 60) m then given k else 0) + lost grid p m part k)
      (λ k within. slot ((p + k) / 60) (given k)) in
      omega (arith, both, lost_sum grid p m part, sum_of_two n (λ k. if nat_lt ((p + k) / 60) m then given k else 0) (lost grid p m part))
    where
      slot : (j cost : ℕ) → (if nat_lt j (m + 1) then cost else 0) ≡ (if nat_lt j m then cost else 0) + (if j == m then cost else 0)
      slot j cost = elim (cases_lt j m) [
        | inl lt ↦ rw (lt-ltb j (m + 1) (omega arith), lt-ltb j m lt, ne_eqb j m (λ e. omega (arith, e, lt))) (omega arith)
        | inr le ↦ elim (cases_lt m j) [
          | inl more ↦ rw (le-ltb j (m + 1) (omega arith), le-ltb j m le, ne_eqb j m (λ e. omega (arith, e, more))) (omega arith)
          | inr less ↦ rw (lt-ltb j (m + 1) (omega arith), le-ltb j m le, eq-eqb j m (omega arith)) (omega arith)
        ]
      ]

  -- in all minutes of the walk
  pub all_lost : (m : ℕ) → m ≡ later_minutes n p + 1 → lost_before m ≡ part_cost grid p (given_up grid.station part)
  all_lost m all =
      sum_below_same n (λ k. if nat_lt ((p + k) / 60) m then given k else 0) given
      (λ k within. ap (λ b. if b then given k else 0) (lt-ltb ((p + k) / 60) m (omega (arith, within, all))))
      ∙ sym given_sum

  -- and in none after them
  pub none_later : (m : ℕ) → later_minutes n p < m → minute_cost grid.station (cost_at grid.rows) n p m (given_up grid.station part) ≡ 0
  none_later m late =
      let none = sum_below_bound n 0 (lost grid p m part)
      (λ k within. rw (ne_eqb ((p + k) / 60) m (λ e. omega (arith, e, within, late))) (omega arith)) in
      omega (arith, none, lost_sum grid p m part)

  -- some minutes lose no more than all do
  pub before_all : (m : ℕ) → lost_before m ≤ part_cost grid p (given_up grid.station part)
  before_all m =
      let less = sum_le n (λ k. if nat_lt ((p + k) / 60) m then given k else 0) given (λ k within. slot (given k) (nat_lt ((p + k) / 60) m)) in
      omega (arith, less, given_sum)
    where
      slot : (cost : ℕ) (b : Bool) → (if b then cost else 0) ≤ cost
      slot cost true = omega arith
      slot cost false = omega arith

  pub minute_of_all : (m : ℕ)
      → minute_cost grid.station (cost_at grid.rows) n p m (given_up grid.station part) ≤ part_cost grid p (given_up grid.station part)
  minute_of_all m = omega (arith, one_more_lost m, before_all (m + 1))

  -- the date costs what it does in the seconds that are kept, and in those that are given up
  pub date_by_second : (m : ℕ) → date_cost grid p m part ≡ part_cost grid p (kept grid.station part) + given_cost grid p m part
  date_by_second m = omega (arith, kept_and_given, minute_of_all m)

  -- what each minute loses, of which some were summed and the others lose nothing
  pub minute_lost : (m all : ℕ) (losses : List ℕ) → all ≡ later_minutes n p + 1
      → ((j : ℕ) → j < all → get_or losses j 0 ≡ minute_cost grid.station (cost_at grid.rows) n p j (given_up grid.station part))
      → ((j : ℕ) → all ≤ j → j < 30 → get_or losses j 0 ≡ 0)
      → m < 30 → get_or losses m 0 ≡ minute_cost grid.station (cost_at grid.rows) n p m (given_up grid.station part)
  minute_lost m all losses count done none few = elim (cases_lt m all) [
    | inl lt ↦ done m lt
    | inr le ↦ none m le few ∙ sym (none_later m (omega (arith, le, count)))
  ]
