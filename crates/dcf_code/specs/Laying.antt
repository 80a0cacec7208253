-- How the telegram of DCF77 is laid.
use Rattle.std.specs.Prelude.{ℕ, List, [], ◌∷◌}

-- the seconds that no field has, but for those in which both symbols are free
abbrev pub no_field : List ℕ
no_field = 0 ∷ 16 ∷ 17 ∷ 18 ∷ 19 ∷ 20 ∷ 28 ∷ 35 ∷ 58 ∷ 59 ∷ 60 ∷ []
