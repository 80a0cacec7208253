-- How the text of a number begins.
use Rattle.std.specs.Prelude.{ℕ, ◌+◌, Bool, false, ◌&&◌, nat_le, List, [], ◌∷◌}
use Rattle.definitions.specs.time.Spelling.{digit_zero}

-- with a digit that is no zero, or the text is a digit alone
abbrev pub is_plain : List ℕ → Bool
is_plain [] = false
is_plain (b ∷ []) = nat_le digit_zero b && nat_le b (digit_zero + 9)
is_plain (b ∷ c ∷ bs) = nat_le (digit_zero + 1) b && nat_le b (digit_zero + 9)
