-- Sums in another order.
use Rattle.std.proofs.Common.{◌≡◌, ℕ, zero, suc, ◌+◌, ◌-◌, ◌*◌, ◌<◌, ◌≤◌, refl, sym, ap, ◌∙◌, arith, add-one, add-zero, add-suc}
use Rattle.definitions.specs.heard.Costs.{sum_below}

-- terms of 0
pub sum_of_none : (n : ℕ) (f : ℕ → ℕ) → ((k : ℕ) → k < n → f k ≡ 0) → sum_below n f ≡ 0
unfolding sum_below
sum_of_none zero f none = refl
sum_of_none (suc n) f none = omega (arith, sum_of_none n f (λ k h. none k (omega arith)), none n (omega arith))

-- the first terms, and those after them
pub sum_in_two : (a b : ℕ) (f : ℕ → ℕ) → sum_below (a + b) f ≡ sum_below a f + sum_below b (λ k. f (a + k))
unfolding sum_below
sum_in_two a zero f = omega (arith, ap (λ m. sum_below m f) (add-zero a))
sum_in_two a (suc b) f = rw add-suc (omega (arith, sum_in_two a b f))

-- the first term, and those after it
pub sum_after_first : (n : ℕ) (f : ℕ → ℕ) → sum_below (suc n) f ≡ f 0 + sum_below n (λ k. f (k + 1))
unfolding sum_below
sum_after_first zero f = omega arith
sum_after_first (suc n) f = omega (arith, sum_after_first n f, ap f (add-one n))

-- the next four terms
pub sum_of_four_more : (i : ℕ) (f : ℕ → ℕ) → sum_below (4 * (i + 1)) f ≡ sum_below (4 * i) f + (f (4 * i) + f (4 * i + 1) + f (4 * i + 2) + f (4 * i + 3))
unfolding sum_below
sum_of_four_more i f =
    let more : 4 * (i + 1) ≡ 4 * i + 4 = omega arith in
    omega (arith, ap (λ m. sum_below m f) more, sum_in_two (4 * i) 4 f, ap f (add-zero (4 * i)))

-- a sum over some terms is at most one over more
pub sum_of_fewer : (a n : ℕ) (f : ℕ → ℕ) → a ≤ n → sum_below a f ≤ sum_below n f
sum_of_fewer a n f le =
    let more : a + (n - a) ≡ n = omega arith in
    omega (arith, ap (λ m. sum_below m f) more, sum_in_two a (n - a) f)

-- terms that are 0 from a on up to b
pub sum_to_later : (a b : ℕ) (f : ℕ → ℕ) → a ≤ b → ((k : ℕ) → a ≤ k → k < b → f k ≡ 0) → sum_below b f ≡ sum_below a f
sum_to_later a b f le none =
    let more : a + (b - a) ≡ b = omega arith in
    omega (arith, ap (λ m. sum_below m f) more, sum_in_two a (b - a) f, sum_of_none (b - a) (λ k. f (a + k)) (λ k h. none (a + k) (omega arith) (omega arith)))

-- a sum of sums
pub sum_of_pairs : (n : ℕ) (f g : ℕ → ℕ) → sum_below n (λ k. f k + g k) ≡ sum_below n f + sum_below n g
unfolding sum_below
sum_of_pairs zero f g = refl
sum_of_pairs (suc n) f g = omega (arith, sum_of_pairs n f g)

-- rows first or columns first
pub sum_turned : (a b : ℕ) (h : ℕ → ℕ → ℕ) → sum_below a (λ i. sum_below b (λ j. h i j)) ≡ sum_below b (λ j. sum_below a (λ i. h i j))
unfolding sum_below
sum_turned zero b h = sym (sum_of_none b (λ j. 0) (λ k lt. refl))
sum_turned (suc a) b h =
    omega (arith, sum_turned a b h, sum_of_pairs b (λ j. sum_below a (λ i. h i j)) (h a))

-- a sum by rows of 60
pub sum_by_rows : (m : ℕ) (f : ℕ → ℕ) → sum_below (60 * m) f ≡ sum_below m (λ j. sum_below 60 (λ s. f (60 * j + s)))
unfolding sum_below
sum_by_rows zero f = refl
sum_by_rows (suc m) f =
    let longer : 60 * suc m ≡ 60 * m + 60 = omega arith in
    ap (λ n. sum_below n f) longer ∙ sum_in_two (60 * m) 60 f ∙ ap (λ c. c + sum_below 60 (λ s. f (60 * m + s))) (sum_by_rows m f)

-- a sum of lesser terms
pub sum_of_less : (n : ℕ) (f g : ℕ → ℕ) → ((k : ℕ) → k < n → f k ≤ g k) → sum_below n f ≤ sum_below n g
unfolding sum_below
sum_of_less zero f g less = omega arith
sum_of_less (suc n) f g less = omega (arith, sum_of_less n f g (λ k h. less k (omega arith)), less n (omega arith))
