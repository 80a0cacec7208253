-- What holds of each element of a list, and of its parts; and what can be decided.
use Rattle.std.proofs.Common.{inl, inr, List, [], ◌∷◌, ◌++◌}
use Rattle.std.specs.List.{AllByRecursion}
use Rattle.definitions.proofs.ExistLaws.{Decided}

module _ {X : Type 0} (P : X → Type 0) where
  pub all_first : (xs ys : List X) → AllByRecursion P (xs ++ ys) → AllByRecursion P xs
  all_first [] ys a = tt
  all_first (x ∷ xs) ys a = (a.0, all_first xs ys a.1)

  pub all_last : (xs ys : List X) → AllByRecursion P (xs ++ ys) → AllByRecursion P ys
  all_last [] ys a = a
  all_last (x ∷ xs) ys a = all_last xs ys a.1

  pub all_middle : (xs : List X) (y : X) (zs : List X) → AllByRecursion P (xs ++ y ∷ zs) → P y
  all_middle [] y zs a = a.0
  all_middle (x ∷ xs) y zs a = all_middle xs y zs a.1

pub all_with : {X : Type 0} (P Q R : X → Type 0) → ((x : X) → P x → Q x → R x) → (xs : List X) → AllByRecursion P xs → AllByRecursion Q xs → AllByRecursion R xs
all_with P Q R to [] a b = tt
all_with P Q R to (x ∷ xs) a b = (to x a.0 b.0, all_with P Q R to xs a.1 b.1)

pub decide_not : {A : Type 0} → Decided A → Decided (A → ⊥)
decide_not (inl a) = inr (λ n. n a)
decide_not (inr n) = inl n
