-- Groups of elements that stand side by side.
use Rattle.std.proofs.Common.{◌≡◌, ℕ, ◌+◌, ◌*◌, ◌<◌, inl, inr, List, [], ◌∷◌, ◌++◌, length, get_or, refl, sym, ap, ◌∙◌, subst, arith, add-one, suc-mul}
use Rattle.std.proofs.Math.ListN.{get_or-append}
use Rattle.std.proofs.lemmas.Bool.{cases_lt}
use Rattle.std.proofs.lemmas.List.{get_or_push, length_push}
use Rattle.std.proofs.lemmas.Nat.{mul-add-lt}
use Rattle.slot_columns.specs.Layered.{AreAdded, AreGroups}

module _ {A : Type 0} (none : A) where
  pub added_none : (Is : ℕ → A → Type 0) (old : List A) → AreAdded none Is old old 0
  added_none Is old = record { count = omega arith; kept = λ k lt. refl; each = λ j lt. absurd (omega (arith, lt)) }

  -- one more
  pub added_more : (Is : ℕ → A → Type 0) (old some more : List A) (x : A) (n : ℕ) → AreAdded none Is old some n → more ≡ some ++ x ∷ [] → Is n x
      → AreAdded none Is old more (n + 1)
  added_more Is old some more x n are is one =
      subst (λ (xs : List A). AreAdded none Is old xs (n + 1)) (sym is)
      (let long = length_push some x in
      record {
        count = omega (arith, long, are.count);
        kept = λ k lt. get_or-append some (x ∷ []) none k (omega (arith, lt, are.count)) ∙ are.kept k lt;
        each = λ j lt. elim (cases_lt j n) [
          | inl early ↦ subst (Is j) (sym (get_or-append some (x ∷ []) none (length old + j) (omega (arith, early, are.count)))) (are.each j early)
          | inr late ↦ (
              let last : j ≡ n = omega (arith, lt, late) in
              let there : length some ≡ length old + j = omega (arith, last, are.count) in
              subst (Is j) (sym (get_or_push some x none (length old + j) there)) (subst (λ i. Is i x) (sym last) one))
        ];
      })

  pub groups_none : (Is : ℕ → ℕ → A → Type 0) (width : ℕ) → AreGroups none Is width [] 0
  groups_none Is width = record { count = omega arith; each = λ i j lt. absurd (omega (arith, lt)) }

  -- a group more
  pub groups_more : (Is : ℕ → ℕ → A → Type 0) (width : ℕ) (some more : List A) (n : ℕ) → AreGroups none Is width some n → AreAdded none (Is n) some more width
      → AreGroups none Is width more (n + 1)
  groups_more Is width some more n are new = record {
    count = omega (arith, new.count, are.count, ap (λ m. m * width) (add-one n), suc-mul n width);
    each = λ i j lt within. elim (cases_lt i n) [
      | inl early ↦ (
          let before : i * width + j < length some = omega (arith, mul-add-lt i width j n early within, are.count) in
          subst (Is i j) (sym (new.kept (i * width + j) before)) (are.each i j early within))
      | inr late ↦ (
          let last : i ≡ n = omega (arith, lt, late) in
          let there : length some + j ≡ i * width + j = omega (arith, are.count, ap (λ m. m * width) last) in
          subst (λ m. Is m j (get_or more (i * width + j) none)) (sym last) (subst (λ m. Is n j (get_or more m none)) there (new.each j within)))
    ];
  }
