-- How the telegram of JJY is laid.
use Rattle.std.specs.Prelude.{ℕ, List, [], ◌∷◌}

-- the seconds that no field has, but for those that carry 0
abbrev pub no_field : List ℕ
no_field = 0 ∷ 9 ∷ 19 ∷ 29 ∷ 36 ∷ 37 ∷ 39 ∷ 49 ∷ 53 ∷ 54 ∷ 59 ∷ 60 ∷ []
