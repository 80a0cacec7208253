-- A list of numbers that a function of the index gives.
use Rattle.std.proofs.Common.{ℕ, ◌≡◌, ◌≢◌, ◌+◌, ◌<◌, List, length, get_or, set, sym, ◌∙◌, subst, map, zero-add, arith, below_more, get_or-set_other, get_or-set_same}
use Rattle.std.specs.List.{range_with_len}
use Rattle.std.proofs.Math.ListN.{length-set}
use Rattle.std.proofs.lemmas.Grind.{same_number_lists}
use Rattle.std.proofs.lemmas.List.FromFn.{length-map-range_with_len, get_or-map-range_with_len}

-- n numbers of which f gives each are the list that f makes
pub made_by : (f : ℕ → ℕ) (n : ℕ) (xs : List ℕ) → length xs ≡ n → ((k : ℕ) → k < n → get_or xs k 0 ≡ f k) → xs ≡ map f (range_with_len 0 n)
made_by f n xs long each =
    same_number_lists xs (map f (range_with_len 0 n)) (long ∙ sym (length-map-range_with_len f 0 n))
    (λ k h. let within : k < n = subst (λ m. k < m) long h in
    each k within ∙ sym (get_or-map-range_with_len f 0 n k k 0 within (zero-add k)))

-- one more of n numbers is as f gives it
pub filled_more : (f : ℕ → ℕ) (n : ℕ) (xs : List ℕ) (i v : ℕ) → i < n → length xs ≡ n → ((k : ℕ) → k < i → get_or xs k 0 ≡ f k) → v ≡ f i
    → (length (set xs i v) ≡ n) × ((k : ℕ) → k < i + 1 → get_or (set xs i v) k 0 ≡ f k)
filled_more f n xs i v within long each new =
    let inside : i < length xs = omega arith in (
      length-set xs i v ∙ long,
      below_more (λ k. get_or (set xs i v) k 0 ≡ f k) i
          (λ k h. let other : k ≢ i = omega arith in rw get_or-set_other (each k h))
          (rw get_or-set_same new),
    )
