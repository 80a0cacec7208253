-- DCF77: what each second of a minute may carry (PTB's description of the time code).
use Rattle.std.specs.Prelude.{ℕ, ◌<◌, ◌≤◌, ◌+◌, ◌%◌, ◌==◌, nat_lt, if◌then◌else◌, List, [], ◌∷◌}
use Rattle.definitions.specs.declared.dcf77.DcfFacts.{DcfFacts}
use Rattle.definitions.specs.codes.Vocabulary.{only, free, no_second, Field, Weighed, weights_from, carried_bit, ones, is_within}

-- each fact is in its range
pub record AreInRange (f : DcfFacts) : Type 0 where
  pub minute : f.minute < 60
  pub hour : f.hour < 24
  pub day : (1 ≤ f.day) × (f.day ≤ 31)
  pub weekday : f.weekday < 7
  pub month : (1 ≤ f.month) × (f.month ≤ 12)
  pub year : f.year < 100

-- the second without a reduction of the carrier
abbrev pub no_reduction : ℕ
no_reduction = 2

abbrev pub minute_weights : List Weighed
minute_weights = weights_from 21 (1 ∷ 2 ∷ 4 ∷ 8 ∷ 10 ∷ 20 ∷ 40 ∷ [])

abbrev pub hour_weights : List Weighed
hour_weights = weights_from 29 (1 ∷ 2 ∷ 4 ∷ 8 ∷ 10 ∷ 20 ∷ [])

abbrev pub day_weights : List Weighed
day_weights = weights_from 36 (1 ∷ 2 ∷ 4 ∷ 8 ∷ 10 ∷ 20 ∷ [])

-- Monday is 1, Sunday is 7
abbrev pub weekday_weights : List Weighed
weekday_weights = weights_from 42 (1 ∷ 2 ∷ 4 ∷ [])

abbrev pub month_weights : List Weighed
month_weights = weights_from 45 (1 ∷ 2 ∷ 4 ∷ 8 ∷ 10 ∷ [])

-- the last two digits of the year
abbrev pub year_weights : List Weighed
year_weights = weights_from 50 (1 ∷ 2 ∷ 4 ∷ 8 ∷ 10 ∷ 20 ∷ 40 ∷ 80 ∷ [])

abbrev pub weekday_from_monday : ℕ → ℕ
weekday_from_monday weekday = if weekday == 0 then 7 else weekday

-- the fields of a minute
abbrev pub dcf_fields : DcfFacts → List Field
dcf_fields f =
    (minute_weights, f.minute) ∷ (hour_weights, f.hour) ∷ (day_weights, f.day)
    ∷ (weekday_weights, weekday_from_monday f.weekday) ∷ (month_weights, f.month) ∷ (year_weights, f.year) ∷ []

-- the ones of the date
abbrev pub date_ones : DcfFacts → ℕ
date_ones f =
    ones day_weights f.day + ones weekday_weights (weekday_from_monday f.weekday) + ones month_weights f.month
    + ones year_weights f.year

-- the bit of a second: the change of summer time, summer or winter time, the warning of a leap second, the start of
-- the fields, even parity of the minute, of the hour and of the date, or a field's bit
abbrev pub dcf_bit : DcfFacts → ℕ → ℕ
dcf_bit f s =
    if s == 16 then (if f.change then 1 else 0)
    else if s == 17 then (if f.summer then 1 else 0)
    else if s == 18 then (if f.summer then 0 else 1)
    else if s == 19 then (if f.leap then 1 else 0)
    else if s == 20 then 1
    else if s == 28 then ones minute_weights f.minute % 2
    else if s == 35 then ones hour_weights f.hour % 2
    else if s == 58 then date_ones f % 2
    else carried_bit (dcf_fields f) s

-- the set of symbols that a second may carry
abbrev pub dcf_second : DcfFacts → ℕ → ℕ
dcf_second f s =
    if nat_lt s (if f.long then 61 else 60)
    then (
    if s == (if f.long then 60 else 59) then only no_reduction
    else if is_within 1 15 s then free
    else only (dcf_bit f s)
    )
    else no_second
