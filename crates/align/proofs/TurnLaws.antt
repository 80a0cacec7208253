-- Sums round the circle of a second.
use Rattle.std.proofs.Common.{◌≡◌, ℕ, zero, suc, ◌+◌, ◌-◌, ◌*◌, ◌%◌, ◌<◌, ◌≤◌, inl, inr, List, get_or, min, refl, sym, ap, ◌∙◌, arith, add-one}
use Rattle.std.proofs.lemmas.Bool.{cases_order}
use Rattle.definitions.specs.heard.Costs.{sum_below}
use Rattle.definitions.specs.heard.Phase.{circular_distance}
use Rattle.definitions.proofs.CostLaws.{sum_below_same}
use Rattle.align.specs.Counters.{tally}

-- one step on: the first term goes, and one comes after the last
step : (n : ℕ) (f : ℕ → ℕ) → sum_below n (λ i. f (i + 1)) + f 0 ≡ sum_below n f + f n
unfolding sum_below
step zero f = refl
step (suc n) f =
    let before = step n f in
    let last : f (n + 1) ≡ f (suc n) = ap f (add-one n) in
    omega arith

-- a sum round the circle, from any offset on
turned : (s : ℕ) (h : ℕ → ℕ) → sum_below 1000 (λ i. h ((s + i) % 1000)) ≡ sum_below 1000 h
turned zero h = sum_below_same 1000 (λ i. h ((0 + i) % 1000)) h (λ i lt. ap h (omega arith))
turned (suc s) h =
    let f = λ (i : ℕ). h ((s + i) % 1000) in
    let on = sum_below_same 1000 (λ i. h ((suc s + i) % 1000)) (λ i. f (i + 1)) (λ i lt. ap h (omega arith)) in
    let round : f 0 ≡ f 1000 = ap h (omega arith) in
    let moved = step 1000 f in
    let before = turned s h in
    omega arith

-- terms of 0 at the end
no_more : (n m : ℕ) (f : ℕ → ℕ) → ((i : ℕ) → n ≤ i → i < n + m → f i ≡ 0) → sum_below (n + m) f ≡ sum_below n f
unfolding sum_below
no_more n zero f none = ap (λ k. sum_below k f) (omega arith)
no_more n (suc m) f none =
    let before = no_more n m f (λ i le lt. none i le (omega arith)) in
    let last = none (n + m) (omega arith) (omega arith) in
    let longer : n + suc m ≡ suc (n + m) = omega arith in
    rw longer (omega arith)

least_of : (a b : ℕ) → 50 ≤ b → 50 - min a b ≡ 50 - a
least_of a b far = elim (cases_order a b) [
  | inl same ↦ omega arith
  | inr (inl lt) ↦ omega arith
  | inr (inr gt) ↦ omega arith
]

-- what the edges count that have the i-th offset of those from 50 ms before the phase on
left_at : (f i : ℕ) → f < 1000 → i < 1000 → 50 - circular_distance ((f + 1000 - 50 + i) % 1000) f ≡ 50 - ((i - 50) + (50 - i))
left_at f i phase within = omega arith

-- the 99 offsets near a phase are all that count, and the one before them counts nothing
pub near : (counts : List ℕ) (f : ℕ) → f < 1000
    → tally counts (λ o. 50 - circular_distance o f) ≡ sum_below 100 (λ i. get_or counts ((f + 1000 - 50 + i) % 1000) 0 * (50 - ((i - 50) + (50 - i))))
near counts f phase =
    let count = λ (i : ℕ). get_or counts ((f + 1000 - 50 + i) % 1000) 0 in
    let left = λ (i : ℕ). 50 - ((i - 50) + (50 - i)) in
    sym (turned (f + 1000 - 50) (λ o. get_or counts o 0 * (50 - circular_distance o f)))
    ∙ sum_below_same 1000 (λ i. count i * (50 - circular_distance ((f + 1000 - 50 + i) % 1000) f)) (λ i. count i * left i)
    (λ i lt. ap (λ x. count i * x) (left_at f i phase lt))
    ∙ no_more 100 900 (λ i. count i * left i) (λ i le lt. let none : left i ≡ 0 = omega arith in rw none (omega arith))
