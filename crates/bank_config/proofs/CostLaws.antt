-- Lists of costs, none above the most.
use Rattle.std.proofs.Common.{ℕ, zero, suc, ◌≤◌, List, [], ◌∷◌, replicate, arith}
use Rattle.std.proofs.Math.ListN.{set}
use Rattle.std.specs.Prelude.{slice_index}

-- zeros
pub zeros_most : (k m n : ℕ) → slice_index (replicate k 0) n ≤ m
zeros_most zero m n = omega arith
zeros_most (suc k) m zero = omega arith
zeros_most (suc k) m (suc n) = zeros_most k m n

-- one of them is replaced by another that isn't
pub set_most : (xs : List ℕ) (i x m : ℕ) → x ≤ m → ((n : ℕ) → slice_index xs n ≤ m) → (n : ℕ) → slice_index (set xs i x) n ≤ m
set_most [] i x m fine all n = all n
set_most (y ∷ ys) zero x m fine all zero = fine
set_most (y ∷ ys) zero x m fine all (suc n) = all (suc n)
set_most (y ∷ ys) (suc i) x m fine all zero = all zero
set_most (y ∷ ys) (suc i) x m fine all (suc n) = set_most ys i x m fine (λ k. all (suc k)) n
