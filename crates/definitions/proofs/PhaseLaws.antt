-- The first peak of a function is its greatest value, and the first of them.
use Rattle.std.proofs.Common.{◌≡◌, ℕ, zero, suc, ◌<◌, ◌≤◌, inl, inr, Bool, true, false, nat_lt, if◌then◌else◌, refl, sym, subst, arith}
use Rattle.std.proofs.lemmas.Bool.{ltb-true, ltb-false, cases_order}
use Rattle.definitions.specs.heard.Phase.{first_maximum}

-- the number p is the first of those up to n at which f is greatest
pub record IsFirstMaximum (f : ℕ → ℕ) (n p : ℕ) : Type 0 where
  pub within : p ≤ n
  pub greatest : (k : ℕ) → k ≤ n → f k ≤ f p
  pub first : (k : ℕ) → k < p → f k < f p

up_to : (P : ℕ → Type 0) (n : ℕ) → ((k : ℕ) → k ≤ n → P k) → P (suc n) → (k : ℕ) → k ≤ suc n → P k
up_to P n before here k le = elim (cases_order k (suc n)) [
  | inl same ↦ subst P (sym same) here
  | inr apart ↦ elim apart [ inl lt ↦ before k (omega arith) | inr gt ↦ absurd (omega arith) ]
]

-- one more number
more : (f : ℕ → ℕ) (n p : ℕ) → IsFirstMaximum f n p → (b : Bool) → nat_lt (f p) (f (suc n)) ≡ b → IsFirstMaximum f (suc n) (if b then suc n else p)
more f n p so_far true e =
    let higher = ltb-true _ _ e in
    record {
      within = omega arith;
      greatest = up_to (λ k. f k ≤ f (suc n)) n (λ k le. omega (arith, higher, so_far.greatest k le)) (omega arith);
      first = λ k lt. omega (arith, higher, so_far.greatest k (omega arith));
    }
more f n p so_far false e =
    let lower = ltb-false _ _ e in
    record {
      within = omega (arith, so_far.within);
      greatest = up_to (λ k. f k ≤ f p) n so_far.greatest lower;
      first = so_far.first;
    }

pub first_maximum_is : (f : ℕ → ℕ) (n : ℕ) → IsFirstMaximum f n (first_maximum f n)
unfolding first_maximum
first_maximum_is f zero = record {
  within = omega arith;
  greatest = λ k le. let here : k ≡ 0 = omega arith in rw here (omega arith);
  first = λ k lt. absurd (omega arith);
}
first_maximum_is f (suc n) = more f n (first_maximum f n) (first_maximum_is f n) (nat_lt (f (first_maximum f n)) (f (suc n))) refl
