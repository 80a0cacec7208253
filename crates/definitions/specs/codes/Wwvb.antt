-- WWVB, amplitude code: what each second of a minute may carry (NIST Special Publication 432).
use Rattle.std.specs.Prelude.{ℕ, ◌<◌, ◌≤◌, ◌/◌, ◌%◌, Bool, ◌==◌, ◌||◌, nat_lt, if◌then◌else◌, List, [], ◌∷◌, ◌++◌}
use Rattle.definitions.specs.declared.wwvb.WwvbFacts.{WwvbFacts}
pub use Rattle.definitions.specs.codes.MarkedCode.{marker, minute_weights, hour_weights, day_weights}
use Rattle.definitions.specs.codes.Vocabulary.{only, free, no_second, Field, Weighed, weights_from, carried_bit, is_one_of, is_within}

-- each fact is in its range
pub record AreInRange (f : WwvbFacts) : Type 0 where
  pub minute : f.minute < 60
  pub hour : f.hour < 24
  pub day_of_year : (1 ≤ f.day_of_year) × (f.day_of_year ≤ 366)
  pub year : f.year < 100
  pub us_code : f.us_code < 4

-- the last two digits of the year
abbrev pub year_weights : List Weighed
year_weights = weights_from 45 (80 ∷ 40 ∷ 20 ∷ 10 ∷ []) ++ weights_from 50 (8 ∷ 4 ∷ 2 ∷ 1 ∷ [])

-- the fields of a minute
abbrev pub wwvb_fields : WwvbFacts → List Field
wwvb_fields f =
    (minute_weights, f.minute) ∷ (hour_weights, f.hour) ∷ (day_weights, f.day_of_year) ∷ (year_weights, f.year) ∷ []

-- the seconds with a marker
abbrev pub is_marked : ℕ → Bool
is_marked s = is_one_of (0 ∷ 9 ∷ 19 ∷ 29 ∷ 39 ∷ 49 ∷ 59 ∷ 60 ∷ []) s

-- the bit of a second: a leap year, the announced leap second, summer time in the United States, or a field's bit
abbrev pub wwvb_bit : WwvbFacts → ℕ → ℕ
wwvb_bit f s =
    if s == 55 then (if f.year % 4 == 0 then 1 else 0)
    else if s == 56 then (if f.leap then 1 else 0)
    else if s == 57 then f.us_code / 2
    else if s == 58 then f.us_code % 2
    else carried_bit (wwvb_fields f) s

-- The set of symbols that a second may carry. Seconds 36 to 38 and 40 to 43 tell the sign and the tenths of DUT1.
abbrev pub wwvb_second : WwvbFacts → ℕ → ℕ
wwvb_second f s =
    if nat_lt s (if f.long then 61 else 60)
    then (
    if is_marked s then only marker
    else if is_within 36 38 s || is_within 40 43 s then free
    else only (wwvb_bit f s)
    )
    else no_second
