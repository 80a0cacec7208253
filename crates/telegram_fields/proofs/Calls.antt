-- A list of numbers that a closure makes, called at each index.
use Rattle.std.proofs.Common.{ℕ, zero, suc, ◌≡◌, ◌+◌, ◌<◌, List, get_or, map, subst, ◌∙◌, arith}
use Rattle.std.specs.List.{range_with_len}
use Rattle.std.specs.Array.{IsFromFnResult, IsFromFnResultFrom}
use Rattle.std.specs.Fn.{Called}
use Rattle.std.proofs.lemmas.List.FromFn.{fill_by_all}
use denote.Param.Members.{Mut}

module _ {F : Type 0} (g : Mut F (ℕ × Unit {0}) ℕ) (number : ℕ → ℕ) (f : F)
    (gives : (i x : ℕ) (f' : F) → Called g f (i, tt) x f' → (x ≡ number i) × (f' ≡ f)) where
  -- the n numbers from index i on are as the function gives them
  each_made : (xs : List ℕ) (n i : ℕ) → IsFromFnResultFrom g f xs i n → (k : ℕ) → k < n → get_or xs (i + k) 0 ≡ number (i + k)
  each_made xs zero i calls k within = absurd (omega arith)
  each_made xs (suc n) i calls zero within =
      subst (λ m. get_or xs m 0 ≡ number m) (omega arith) (calls.2.1 0 ∙ (gives i calls.1 calls.0 calls.3).0)
  each_made xs (suc n) i calls (suc k) within =
      let same = (gives i calls.1 calls.0 calls.3).1 in
      let rest = subst (λ q. IsFromFnResultFrom g q xs (i + 1) n) same calls.4 in
      subst (λ m. get_or xs m 0 ≡ number m) (omega arith) (each_made xs n (i + 1) rest k (omega arith))

  -- where the closure gives the function's number at each index, it makes the list of these
  pub made_by_calls : (xs : List ℕ) (n : ℕ) → IsFromFnResult g f xs n → xs ≡ map number (range_with_len 0 n)
  made_by_calls xs n made =
      fill_by_all number xs n 0 made.long
      (λ k within. subst (λ m. get_or xs m 0 ≡ number m) (omega arith) (each_made xs n 0 made.each k within))
