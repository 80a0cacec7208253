-- The table that counts the milliseconds that differ is in its range.
use Rattle.std.proofs.Common.{ℕ, zero, suc, ◌≡◌, ◌≤◌, nat_le, true, List, [], ◌∷◌, refl, arith}
use Rattle.std.proofs.lemmas.Bool.{and_parts, leb-true}
use Rattle.std.specs.List.{list_all}
use Rattle.std.specs.Prelude.{slice_index}
use Rattle.signal_base.specs.Limits.{IsPriced}
use Rattle.signal_base.specs.Table.{difference_table}
use Rattle.signal_base.specs.declared.limits.TheConstants.{MOST_COST}

-- each of the numbers is judged
all_most : (xs : List ℕ) (m : ℕ) → list_all (λ x. nat_le x m) xs ≡ true → (n : ℕ) → slice_index xs n ≤ m
all_most [] m fine n = omega arith
all_most (x ∷ xs) m fine zero = leb-true x m (and_parts (nat_le x m) (list_all (λ y. nat_le y m) xs) fine).0
all_most (x ∷ xs) m fine (suc n) = all_most xs m (and_parts (nat_le x m) (list_all (λ y. nat_le y m) xs) fine).1 n

pub priced : IsPriced difference_table
unfolding difference_table
priced = record { low = all_most difference_table.low MOST_COST refl; high = all_most difference_table.high MOST_COST refl; second = λ m e. cc }
