-- Rows of one number.
use Rattle.std.proofs.Common.{◌≡◌, ℕ, ◌≤◌, inl, inr, length, get_or, replicate, arith}
use Rattle.std.proofs.lemmas.Bool.{cases_lt}
use Rattle.std.proofs.lemmas.List.{get_or-replicate, get_or_past, length-replicate}

-- one number again and again, and 0 after it
pub repeated : (n v k : ℕ) → get_or (replicate n v) k 0 ≤ v
repeated n v k =
    let long : length (replicate n v) ≡ n = length-replicate n v in
    elim (cases_lt k n) [
      | inl lt ↦ omega (arith, get_or-replicate n k v 0 lt)
      | inr le ↦ omega (arith, get_or_past (replicate n v) k 0 (omega arith))
    ]

pub none_costs : (n set : ℕ) → ◌≡◌ {A = ℕ} (get_or (replicate n 0) set 0) 0
none_costs n set = omega (arith, repeated n 0 set)
