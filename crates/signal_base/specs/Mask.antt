-- Small sets as masks: bit i says whether number i is in the set.
use Rattle.std.specs.Prelude.{ℕ, Bool, ◌==◌}
use Rattle.std.specs.Int.{bit_at}

-- the set has this number
abbrev pub has_bit : ℕ → ℕ → Bool
has_bit mask i = bit_at mask i == 1
