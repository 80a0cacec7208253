-- Sums over lists that are read by `get_elem?`, and facts of each element.
use Rattle.std.proofs.Common.{◌≡◌, ◌≢◌, ℕ, zero, suc, ◌+◌, ◌≤◌, List, [], ◌∷◌, ◌++◌, map, set, sym, refl, ap, ◌∙◌, subst, ⊎_elim, cond, eqb, arith}
use mathlib.Core.Option.{some, some-injective, some-ne-none}
use lib.ListN.{get_elem?}
use Rattle.std.specs.List.{sum_by}
use Rattle.std.proofs.lemmas.List.Sums.{sum_by-cons, sum_by-append, sum_by_push}
use Rattle.std.proofs.lemmas.Bool.Decides.{nat_tests}
use Rattle.atomic_table.proofs.Lists.{at_set, at_snoc}
use Rattle.race_words.specs.Sound.{times, once_below}

module _ {X : Type 0} where
  -- the sum once one element has changed
  pub sum_by_changed : (f : X → ℕ) (xs : List X) (i : ℕ) (v w : X) → get_elem? xs i ≡ some v → sum_by f (set xs i w) + f v ≡ sum_by f xs + f w
  sum_by_changed f [] i v w e = absurd (some-ne-none v (sym e))
  sum_by_changed f (x ∷ xs) zero v w e =
      let is : f x ≡ f v = ap f (some-injective x v e) in omega (arith, sum_by-cons f w xs, sum_by-cons f x xs)
  sum_by_changed f (x ∷ xs) (suc i) v w e =
      let rest = sum_by_changed f xs i v w e in omega (arith, sum_by-cons f x (set xs i w), sum_by-cons f x xs)

  -- what holds of each element holds of each once one has changed
  pub each_changed : (P Q : X → Type 0) (xs : List X) (i : ℕ) (w : X) → ((x : X) → P x → Q x) → Q w → ((j : ℕ) (x : X) → get_elem? xs j ≡ some x → P x)
      → (j : ℕ) (x : X) → get_elem? (set xs i w) j ≡ some x → Q x
  each_changed P Q xs i w weaker here each j x e =
      ⊎_elim (λ t. subst Q t.1 here) (λ t. weaker x (each j x t.1)) (at_set xs i j w x e)

  pub each_snoc : (P : X → Type 0) (xs : List X) (w : X) → P w → ((j : ℕ) (x : X) → get_elem? xs j ≡ some x → P x)
      → (j : ℕ) (x : X) → get_elem? (xs ++ w ∷ []) j ≡ some x → P x
  each_snoc P xs w here each j x e = ⊎_elim (λ t. each j x t) (λ t. subst P t here) (at_snoc xs w x j e)

  pub map_unchanged : {Y : Type 0} (f : X → Y) (xs : List X) (i : ℕ) (v w : X) → get_elem? xs i ≡ some v → f w ≡ f v → map f (set xs i w) ≡ map f xs
  map_unchanged f [] i v w e same = absurd (some-ne-none v (sym e))
  map_unchanged f (x ∷ xs) zero v w e same = ap (λ y. y ∷ map f xs) (same ∙ sym (ap f (some-injective x v e)))
  map_unchanged f (x ∷ xs) (suc i) v w e same = ap (λ ys. f x ∷ ys) (map_unchanged f xs i v w e same)

  pub set_at : (xs : List X) (i : ℕ) (v w : X) → get_elem? xs i ≡ some v → get_elem? (set xs i w) i ≡ some w
  set_at [] i v w e = absurd (some-ne-none v (sym e))
  set_at (x ∷ xs) zero v w e = refl
  set_at (x ∷ xs) (suc i) v w e = set_at xs i v w e

  pub set_twice : (xs : List X) (i : ℕ) (v w : X) → set (set xs i v) i w ≡ set xs i w
  set_twice [] i v w = refl
  set_twice (x ∷ xs) zero v w = refl
  set_twice (x ∷ xs) (suc i) v w = ap (λ ys. x ∷ ys) (set_twice xs i v w)

  pub set_apart : (xs : List X) (i j : ℕ) (v w : X) → i ≢ j → set (set xs i v) j w ≡ set (set xs j w) i v
  set_apart [] i j v w apart = refl
  set_apart (x ∷ xs) zero zero v w apart = absurd (apart refl)
  set_apart (x ∷ xs) zero (suc j) v w apart = refl
  set_apart (x ∷ xs) (suc i) zero v w apart = refl
  set_apart (x ∷ xs) (suc i) (suc j) v w apart = ap (λ ys. x ∷ ys) (set_apart xs i j v w (λ e. apart (ap suc e)))

  -- one number is no greater than the sum
  pub at-le-sum_by : (f : X → ℕ) (xs : List X) (i : ℕ) (v : X) → get_elem? xs i ≡ some v → f v ≤ sum_by f xs
  at-le-sum_by f [] i v e = absurd (some-ne-none v (sym e))
  at-le-sum_by f (x ∷ xs) zero v e = let is : f x ≡ f v = ap f (some-injective x v e) in omega (arith, sum_by-cons f x xs)
  at-le-sum_by f (x ∷ xs) (suc i) v e = let rest = at-le-sum_by f xs i v e in omega (arith, sum_by-cons f x xs)

pub times_push : (x n : ℕ) (xs : List ℕ) → times x (xs ++ n ∷ []) ≡ times x xs + cond (eqb n x) 1 0
times_push x n xs = sum_by_push (λ y. cond (eqb y x) 1 0) xs n

pub times-append : (x : ℕ) (xs ys : List ℕ) → times x (xs ++ ys) ≡ times x xs + times x ys
times-append x xs ys = sum_by-append (λ y. cond (eqb y x) 1 0) xs ys

pub once_below_more : (x n : ℕ) → once_below x (n + 1) ≡ once_below x n + cond (eqb n x) 1 0
once_below_more x n = grind (arith, nat_tests)
