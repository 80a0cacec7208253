-- What a computed check tells: of each number below a bound, and of each place of two walks.
use Rattle.std.proofs.Common.{◌≡◌, ℕ, zero, suc, ◌<◌, inl, inr, Bool, true, false, ◌&&◌, ◌||◌, refl, sym, ap, subst, arith}
use Rattle.std.proofs.lemmas.Bool.{and_parts, or_cases, cases_order}
use Rattle.definitions.specs.declared.sequence.Sequence.{Sequence}
use Rattle.definitions.specs.sequences.Walks.{next_place, place_at}

-- each number below n passes
unfoldable pub all_below : (ℕ → Bool) → ℕ → Bool
all_below p zero = true
all_below p (suc n) = all_below p n && p n

pub below : (p : ℕ → Bool) (n : ℕ) → all_below p n ≡ true → (k : ℕ) → k < n → p k ≡ true
unfolding all_below
below p zero all k lt = absurd (omega arith)
below p (suc n) all k lt = elim (cases_order k n) [
  | inl same ↦ subst (λ m. p m ≡ true) (sym same) (and_parts (all_below p n) (p n) all).1
  | inr apart ↦ elim apart [
    | inl less ↦ below p n (and_parts (all_below p n) (p n) all).0 k less
    | inr more ↦ absurd (omega arith)
  ]
]

-- some number below n passes
unfoldable pub any_below : (ℕ → Bool) → ℕ → Bool
any_below p zero = false
any_below p (suc n) = any_below p n || p n

pub found : (p : ℕ → Bool) (n : ℕ) → any_below p n ≡ true → (k : ℕ) × (p k ≡ true)
unfolding any_below
found p zero none = absurd cc
found p (suc n) some = elim (or_cases (any_below p n) (p n) some) [ inl before ↦ found p n before | inr here ↦ (n, here) ]

-- two walks side by side, and whether all their places so far pass
module _ (q r : Sequence) (test : ℕ × ℕ → ℕ × ℕ → Bool) where
  unfoldable pub walks : ℕ → (ℕ × ℕ) × (ℕ × ℕ) × Bool
  walks zero = ((q.first, q.second), (r.first, r.second), true)
  walks (suc n) =
      let w = walks n in
      (next_place q.announced w.0, next_place r.announced w.1, w.2 && test w.0 w.1)

  first_walk : (n : ℕ) → (walks n).0 ≡ place_at q n
  unfolding walks place_at
  first_walk zero = refl
  first_walk (suc n) = ap (next_place q.announced) (first_walk n)

  second_walk : (n : ℕ) → (walks n).1 ≡ place_at r n
  unfolding walks place_at
  second_walk zero = refl
  second_walk (suc n) = ap (next_place r.announced) (second_walk n)

  pub along : (n : ℕ) → (walks n).2 ≡ true → (k : ℕ) → k < n → test (place_at q k) (place_at r k) ≡ true
  unfolding walks
  along zero all k lt = absurd (omega arith)
  along (suc n) all k lt = elim (cases_order k n) [
    | inl same ↦ subst (λ m. test (place_at q m) (place_at r m) ≡ true) (sym same)
        (rw (first_walk n, second_walk n) at (and_parts (walks n).2 (test (walks n).0 (walks n).1) all).1)
    | inr apart ↦ elim apart [
      | inl less ↦ along n (and_parts (walks n).2 (test (walks n).0 (walks n).1) all).0 k less
      | inr more ↦ absurd (omega arith)
    ]
  ]
