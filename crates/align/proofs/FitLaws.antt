-- The first maximum, one number after the other.
use Rattle.std.proofs.Common.{◌≡◌, ℕ, zero, suc, ◌-◌, ◌<◌, ◌≤◌, sym, refl, ap, ◌∙◌, arith}
use Rattle.std.proofs.lemmas.Bool.{lt-ltb, le-ltb}
use Rattle.definitions.specs.heard.Phase.{first_maximum}

pub first_maximum_none : (h : ℕ → ℕ) → first_maximum h 0 ≡ 0
unfolding first_maximum
first_maximum_none h = refl

-- one more number, if it is higher and if it isn't
pub first_maximum-higher : (h : ℕ → ℕ) (best f : ℕ) → 0 < f → best ≡ first_maximum h (f - 1) → h best < h f → first_maximum h f ≡ f
unfolding first_maximum
first_maximum-higher h best zero more is e = absurd (omega arith)
first_maximum-higher h best (suc n) more is e =
    let before : suc n - 1 ≡ n = omega arith in
    let best_is : first_maximum h n ≡ best = sym (is ∙ ap (first_maximum h) before) in
    rw best_is (rw (lt-ltb (h best) (h (suc n)) e) refl)

pub first_maximum-lower : (h : ℕ → ℕ) (best f : ℕ) → 0 < f → best ≡ first_maximum h (f - 1) → h f ≤ h best → first_maximum h f ≡ best
unfolding first_maximum
first_maximum-lower h best zero more is e = absurd (omega arith)
first_maximum-lower h best (suc n) more is e =
    let before : suc n - 1 ≡ n = omega arith in
    let best_is : first_maximum h n ≡ best = sym (is ∙ ap (first_maximum h) before) in
    rw best_is (rw (le-ltb (h best) (h (suc n)) e) refl)

-- functions of the same values
pub first_maximum_same : (f h : ℕ → ℕ) (n : ℕ) → ((k : ℕ) → f k ≡ h k) → first_maximum f n ≡ first_maximum h n
unfolding first_maximum
first_maximum_same f h zero same = refl
first_maximum_same f h (suc n) same =
    rw (first_maximum_same f h n same) (rw (same (first_maximum h n), same (suc n)) refl)
