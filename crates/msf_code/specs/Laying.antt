-- How the telegram of MSF is laid, where the minute has 60 seconds.
use Rattle.std.specs.Prelude.{ℕ, List, [], ◌∷◌}

-- the seconds that no field has, but for those in which all four symbols are free
abbrev pub no_field : List ℕ
no_field = 0 ∷ 52 ∷ 53 ∷ 54 ∷ 55 ∷ 56 ∷ 57 ∷ 58 ∷ 59 ∷ []
