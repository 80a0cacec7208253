-- What a sequence costs in a sweep is what it costs at some swept offset, and it costs no less at any.
use Rattle.std.proofs.Common.{◌≡◌, ℕ, zero, suc, ◌+◌, ◌<◌, ◌≤◌, ◌⊎◌, inl, inr, Bool, true, false, if◌then◌else◌, List, [], ◌∷◌, map, filter, fold, min, Option, Some, None, unwrap_or, refl, sym, ap, ◌∙◌, subst, arith}
use Rattle.std.specs.List.{range_with_len}
use Rattle.std.proofs.Math.Nat.{min-eq_left, min-eq_right}
use Rattle.std.proofs.lemmas.Bool.{cases_eq, cases_lt}
use Rattle.signal_base.specs.declared.window.Window.{Window}
use Rattle.definitions.specs.declared.sequence.Sequence.{Sequence}
use Rattle.definitions.specs.heard.Costs.{least}
use Rattle.due.specs.Banks.{Bank}
use Rattle.due.specs.Outputs.{SomeOf}
use Rattle.sweep_due.specs.declared.offsets.TheConstants.{OFFSETS}
use Rattle.sweep_due.specs.Phases.{IsSwept, is_swept, swept_offsets}
use Rattle.sweep_due.specs.Swept.{cost_at, swept_cost}

-- the least of some numbers is one of them, and no other is less
min_one : (a b : ℕ) → ((min a b ≡ a) ⊎ (min a b ≡ b)) × (min a b ≤ a) × (min a b ≤ b)
min_one a b = elim (cases_lt a b) [
  | inl lt ↦ let le : a ≤ b = omega (arith, lt) in let e = min-eq_left le in (inl e, omega (arith, e), omega (arith, e, le))
  | inr ge ↦ let e = min-eq_right ge in (inr e, omega (arith, e, ge), omega (arith, e))
]

fold_among : (c : ℕ) (cs : List ℕ) → (fold min c cs ≡ c) ⊎ SomeOf (λ (x : ℕ). x ≡ fold min c cs) cs
fold_among c [] = inl refl
fold_among c (d ∷ cs) = elim (fold_among (min c d) cs) [
  | inr in_rest ↦ inr (inr in_rest)
  | inl e ↦ elim (min_one c d).0 [ inl f ↦ inl (e ∙ f) | inr f ↦ inr (inl (sym (e ∙ f))) ]
]

fold_below : (c : ℕ) (cs : List ℕ) → fold min c cs ≤ c
fold_below c [] = omega arith
fold_below c (d ∷ cs) = omega (arith, fold_below (min c d) cs, (min_one c d).1)

fold_below_each : (c x : ℕ) (cs : List ℕ) → SomeOf (λ (y : ℕ). y ≡ x) cs → fold min c cs ≤ x
fold_below_each c x [] is = absurd is
fold_below_each c x (d ∷ cs) (inl e) = omega (arith, fold_below (min c d) cs, (min_one c d).2, e)
fold_below_each c x (d ∷ cs) (inr is) = fold_below_each (min c d) x cs is

least_among : (xs : List ℕ) (x : ℕ) → SomeOf (λ (y : ℕ). y ≡ x) xs
    → SomeOf (λ (y : ℕ). y ≡ unwrap_or (least xs) 0) xs × (unwrap_or (least xs) 0 ≤ x)
least_among [] x is = absurd is
least_among (c ∷ cs) x is = (elim (fold_among c cs) [ inl e ↦ inl (sym e) | inr some ↦ inr some ], below is)
  where
    below : (c ≡ x) ⊎ SomeOf (λ (y : ℕ). y ≡ x) cs → fold min c cs ≤ x
    below (inl e) = omega (arith, fold_below c cs, e)
    below (inr some) = fold_below_each c x cs some

abbrev IsCost : (ℕ → ℕ) → (ℕ → Bool) → ℕ → ℕ → Type 0
IsCost f p x limit = (i : ℕ) × (i < limit) × (p i ≡ true) × (f i ≡ x)

-- what is among the costs of chosen numbers is the cost of one
cost_among : (f : ℕ → ℕ) (p : ℕ → Bool) (x a n : ℕ) → SomeOf (λ (y : ℕ). y ≡ x) (map f (filter p (range_with_len a n)))
    → IsCost f p x (a + n)
cost_among f p x a zero is = absurd is
cost_among f p x a (suc n) is = by_test (p a) refl (λ more. further (cost_among f p x (a + 1) n more)) is
  where
    further : IsCost f p x (a + 1 + n) → IsCost f p x (a + suc n)
    further h = (h.0, omega (arith, h.1), h.2, h.3)

    by_test : (b : Bool) → p a ≡ b → (SomeOf (λ (y : ℕ). y ≡ x) (map f (filter p (range_with_len (a + 1) n))) → IsCost f p x (a + suc n))
        → SomeOf (λ (y : ℕ). y ≡ x) (map f (if p a then a ∷ filter p (range_with_len (a + 1) n) else filter p (range_with_len (a + 1) n))) → IsCost f p x (a + suc n)
    by_test true e rest is = elim (rw e at is) [ inl same ↦ (a, omega arith, e, same) | inr more ↦ rest more ]
    by_test false e rest is = rest (rw e at is)

-- and the cost of each is among them
cost_in : (f : ℕ → ℕ) (p : ℕ → Bool) (i a n : ℕ) → a ≤ i → i < a + n → p i ≡ true → SomeOf (λ (y : ℕ). y ≡ f i) (map f (filter p (range_with_len a n)))
cost_in f p i a zero le lt is = absurd (omega (arith, le, lt))
cost_in f p i a (suc n) le lt is = by_place (cases_eq a i) (λ more. cost_in f p i (a + 1) n more (omega (arith, lt)) is)
  where
    with_test : (b : Bool) → SomeOf (λ (y : ℕ). y ≡ f i) (map f (filter p (range_with_len (a + 1) n)))
        → SomeOf (λ (y : ℕ). y ≡ f i) (map f (if b then a ∷ filter p (range_with_len (a + 1) n) else filter p (range_with_len (a + 1) n)))
    with_test true some = inr some
    with_test false some = some

    by_place : (a ≡ i) ⊎ (¬ (a ≡ i)) → (a + 1 ≤ i → SomeOf (λ (y : ℕ). y ≡ f i) (map f (filter p (range_with_len (a + 1) n))))
        → SomeOf (λ (y : ℕ). y ≡ f i) (map f (filter p (range_with_len a (suc n))))
    by_place (inl e) rest = rw (ap p e ∙ is) (inl (ap f e))
    by_place (inr other) rest = with_test (p a) (rest (omega (arith, le, other)))

module _ (window : Window) (bank : Bank) (q : Sequence) where
  -- no swept offset costs less
  pub swept_below : (i : ℕ) → IsSwept window.phase i → swept_cost window bank q ≤ cost_at window bank q i
  swept_below i is =
      (least_among (map (cost_at window bank q) (swept_offsets window.phase)) (cost_at window bank q i)
      (cost_in (cost_at window bank q) (is_swept window.phase) i 0 OFFSETS (omega arith) (omega (arith, is.0)) is.1)).1

  -- some swept offset costs it, where there is one
  pub swept_is : (j : ℕ) → IsSwept window.phase j → (i : ℕ) × IsSwept window.phase i × (cost_at window bank q i ≡ swept_cost window bank q)
  swept_is j is =
      let some = (least_among (map (cost_at window bank q) (swept_offsets window.phase)) (cost_at window bank q j)
      (cost_in (cost_at window bank q) (is_swept window.phase) j 0 OFFSETS (omega arith) (omega (arith, is.0)) is.1)).0 in
      let found = cost_among (cost_at window bank q) (is_swept window.phase) (swept_cost window bank q) 0 OFFSETS some in
      (found.0, (omega (arith, found.1), found.2), found.3)
