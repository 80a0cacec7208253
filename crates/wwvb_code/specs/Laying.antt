-- How the telegram of WWVB is laid.
use Rattle.std.specs.Prelude.{ℕ, List, [], ◌∷◌}

-- the seconds that no field has, but for those that carry 0
abbrev pub no_field : List ℕ
no_field = 0 ∷ 9 ∷ 19 ∷ 29 ∷ 36 ∷ 37 ∷ 38 ∷ 39 ∷ 40 ∷ 41 ∷ 42 ∷ 43 ∷ 49 ∷ 55 ∷ 56 ∷ 57 ∷ 58 ∷ 59 ∷ 60 ∷ []
