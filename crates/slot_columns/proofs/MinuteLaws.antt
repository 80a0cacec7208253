-- What a part costs in one walk minute.
use Rattle.std.proofs.Common.{◌≡◌, ◌≢◌, ℕ, ◌+◌, ◌-◌, ◌*◌, ◌/◌, ◌%◌, ◌<◌, ◌≤◌, inl, inr, Bool, true, false, ◌==◌, if◌then◌else◌, List, length, get_or, sym, ap, ◌∙◌, arith}
use Rattle.std.proofs.lemmas.Bool.{cases_lt, eq-eqb, ne_eqb}
use Rattle.std.proofs.Math.Nat.{mul-le-mul_right}
use Rattle.definitions.specs.heard.Costs.{sum_below}
use Rattle.definitions.proofs.CostLaws.{sum_below_bound}
use Rattle.symbol_cost.specs.Grid.{Grid, cost_at}
use Rattle.symbol_cost.specs.declared.limits.TheConstants.{RECEIVER_COST}
use Rattle.slot_columns.specs.Parts.{cost_in_minute, minute_cost}
use Rattle.slot_columns.specs.Rows.{IsBounded, cost_in_slot}
use Rattle.slot_columns.proofs.SumLaws.{sum_in_two, sum_of_none, sum_to_later}

-- what the part costs in slot k
abbrev pub in_minute : Grid → ℕ → ℕ → List ℕ → ℕ → ℕ
in_minute grid = cost_in_minute grid.station (cost_at grid.rows)

-- sums that differ by terms of 0
pub same_sum : (k n : ℕ) (f : ℕ → ℕ) → ((i : ℕ) → k ≤ i → i < n → f i ≡ 0) → ((i : ℕ) → n ≤ i → i < k → f i ≡ 0) → sum_below k f ≡ sum_below n f
same_sum k n f after beyond = elim (cases_lt k n) [
  | inl lt ↦ sym (sum_to_later k n f (omega arith) after)
  | inr le ↦ sum_to_later n k f le beyond
]

-- a sum of which only d terms from a on can be more than 0
sum_of_some : (n a b d : ℕ) (f : ℕ → ℕ) → ((k : ℕ) → k < a → f k ≡ 0) → ((k : ℕ) → a + d ≤ k → k < n → f k ≡ 0) → ((k : ℕ) → k < n → f k ≤ b) → a + d ≤ n
    → d ≤ 60 → sum_below n f ≤ 60 * b
sum_of_some n a b d f before after small within few =
    omega (
      arith,
      sum_to_later (a + d) n f within after,
      sum_in_two a d f,
      sum_of_none a f before,
      sum_below_bound d b (λ k. f (a + k)) (λ k lt. small (a + k) (omega arith)),
      mul-le-mul_right b few,
    )

-- and where these are 60
sum_of_sixty : (n a b : ℕ) (f : ℕ → ℕ) → ((k : ℕ) → k < a → f k ≡ 0) → ((k : ℕ) → a + 60 ≤ k → f k ≡ 0) → ((k : ℕ) → k < n → f k ≤ b) → sum_below n f ≤ 60 * b
sum_of_sixty n a b f before after small = elim (cases_lt a n) [
  | inl lt ↦ elim (cases_lt (n - a) 60) [
    | inl less ↦ sum_of_some n a b (n - a) f before (λ k le within. absurd (omega arith)) small (omega arith) (omega arith)
    | inr more ↦ sum_of_some n a b 60 f before (λ k le within. after k le) small (omega arith) (omega arith)
  ]
  | inr le ↦ omega (arith, sum_of_none n f (λ k lt. before k (omega arith)))
]

module _ (grid : Grid) (p m : ℕ) (part : List ℕ) where
  -- a slot of the minute
  pub inside : (k s : ℕ) → (p + k) / 60 ≡ m → (p + k) % 60 ≡ s → in_minute grid p m part k ≡ cost_in_slot grid (get_or part s 0) k
  inside k s here second =
      ap (λ (t : Bool). if t then cost_in_slot grid (get_or part ((p + k) % 60) 0) k else 0) (eq-eqb ((p + k) / 60) m here)
      ∙ ap (λ x. cost_in_slot grid (get_or part x 0) k) second

  -- a slot outside it
  pub outside : (k : ℕ) → ((p + k) / 60 ≢ m) → in_minute grid p m part k ≡ 0
  outside k apart = ap (λ (t : Bool). if t then cost_in_slot grid (get_or part ((p + k) % 60) 0) k else 0) (ne_eqb ((p + k) / 60) m apart)

  -- the minute costs what 60 seconds can
  pub minute_bound : IsBounded grid → p < 60 → minute_cost grid.station (cost_at grid.rows) (length grid.rows) p m part ≤ 60 * (grid.receivers * RECEIVER_COST)
  minute_bound bounded second =
      sum_of_sixty (length grid.rows) (60 * m - p) (grid.receivers * RECEIVER_COST) (in_minute grid p m part)
      (λ k lt. outside k (λ e. omega arith)) (λ k le. outside k (λ e. omega arith))
      (λ k within. by_test k within ((p + k) / 60 == m))
    where
      by_test : (k : ℕ) → k < length grid.rows → (t : Bool) → (if t then cost_in_slot grid (get_or part ((p + k) % 60) 0) k else 0) ≤ grid.receivers * RECEIVER_COST
      by_test k within true = bounded.small k (get_or part ((p + k) % 60) 0) within
      by_test k within false = omega arith
