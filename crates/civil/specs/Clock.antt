-- The time of day, as the text of a minute has it.
use Rattle.std.specs.Prelude.{ℕ, ◌/◌, ◌%◌, List, [], ◌∷◌, ◌++◌}
use Rattle.definitions.specs.time.Calendar.{minutes_per_hour}
use Rattle.definitions.specs.time.Spelling.{colon, letter_t, letter_z, two_digits}

-- Thh:mmZ, of a minute of the day
abbrev pub time_text : ℕ → List ℕ
time_text m =
    letter_t ∷ two_digits (m / minutes_per_hour) ++ colon ∷ two_digits (m % minutes_per_hour) ++ letter_z ∷ []
