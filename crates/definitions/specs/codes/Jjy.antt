-- JJY: what each second of a minute may carry (NICT's description of the standard time code).
use Rattle.std.specs.Prelude.{ℕ, ◌<◌, ◌≤◌, ◌%◌, Bool, ◌==◌, ◌&&◌, ◌||◌, nat_lt, if◌then◌else◌, List, [], ◌∷◌}
use Rattle.definitions.specs.declared.jjy.JjyFacts.{JjyFacts}
pub use Rattle.definitions.specs.codes.MarkedCode.{marker, minute_weights, hour_weights, day_weights}
use Rattle.definitions.specs.codes.Vocabulary.{only, free, unscored, no_second, Field, Weighed, weights_from, carried_bit, ones, is_one_of, is_within}

-- each fact is in its range
pub record AreInRange (f : JjyFacts) : Type 0 where
  pub minute : f.minute < 60
  pub hour : f.hour < 24
  pub day_of_year : (1 ≤ f.day_of_year) × (f.day_of_year ≤ 366)
  pub year : f.year < 100
  pub weekday : f.weekday < 7

-- the last two digits of the year
abbrev pub year_weights : List Weighed
year_weights = weights_from 41 (80 ∷ 40 ∷ 20 ∷ 10 ∷ 8 ∷ 4 ∷ 2 ∷ 1 ∷ [])

-- Sunday is 0
abbrev pub weekday_weights : List Weighed
weekday_weights = weights_from 50 (4 ∷ 2 ∷ 1 ∷ [])

-- the seconds with a marker
abbrev pub is_marked : JjyFacts → ℕ → Bool
is_marked f s = is_one_of (0 ∷ 9 ∷ 19 ∷ 29 ∷ 39 ∷ 49 ∷ (if f.long then 60 else 59) ∷ []) s

-- in the minutes 15 and 45 the call sign is sent
abbrev pub is_call_minute : JjyFacts → Bool
is_call_minute f = (f.minute == 15) || (f.minute == 45)

-- the fields of a minute
abbrev pub jjy_fields : JjyFacts → List Field
jjy_fields f =
    (minute_weights, f.minute) ∷ (hour_weights, f.hour) ∷ (day_weights, f.day_of_year) ∷ (year_weights, f.year)
    ∷ (weekday_weights, f.weekday) ∷ []

-- the bit of a second: even parity of the hour and of the minute, the warning, or a field's bit
abbrev pub jjy_bit : JjyFacts → ℕ → ℕ
jjy_bit f s =
    if s == 36 then ones hour_weights f.hour % 2
    else if s == 37 then ones minute_weights f.minute % 2
    else if is_within 53 54 s then (if f.leap then 1 else 0)
    else carried_bit (jjy_fields f) s

-- the set of symbols that a second may carry
abbrev pub jjy_second : JjyFacts → ℕ → ℕ
jjy_second f s =
    if nat_lt s (if f.long then 61 else 60)
    then (
    if is_marked f s then only marker
    else if is_call_minute f && is_within 40 48 s then unscored
    else if is_call_minute f && is_within 50 55 s then free
    else only (jjy_bit f s)
    )
    else no_second
