-- What WWVB and JJY lay alike: the marker, and the seconds of the minute, the hour and the day of the year.
use Rattle.std.specs.Prelude.{ℕ, List, [], ◌∷◌, ◌++◌}
use Rattle.definitions.specs.codes.Vocabulary.{Weighed, weights_from}

-- the symbol that marks seconds
abbrev pub marker : ℕ
marker = 2

abbrev pub minute_weights : List Weighed
minute_weights = weights_from 1 (40 ∷ 20 ∷ 10 ∷ []) ++ weights_from 5 (8 ∷ 4 ∷ 2 ∷ 1 ∷ [])

abbrev pub hour_weights : List Weighed
hour_weights = weights_from 12 (20 ∷ 10 ∷ []) ++ weights_from 15 (8 ∷ 4 ∷ 2 ∷ 1 ∷ [])

-- the day of the year, from 1
abbrev pub day_weights : List Weighed
day_weights =
    weights_from 22 (200 ∷ 100 ∷ []) ++ weights_from 25 (80 ∷ 40 ∷ 20 ∷ 10 ∷ [])
    ++ weights_from 30 (8 ∷ 4 ∷ 2 ∷ 1 ∷ [])
