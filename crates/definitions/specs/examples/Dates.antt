-- Days and minutes by their dates, and what is around a change of summer time.
use Rattle.std.specs.Prelude.{ℕ, ◌+◌, ◌-◌, ◌*◌, ◌/◌, ◌%◌, ◌==◌, ◌&&◌, ◌||◌, nat_lt, if◌then◌else◌, Bool, true, false, List, [], ◌∷◌, map, slice_index}
use Rattle.signal_base.specs.declared.station.Station.TheVariants.{Wwvb}
use Rattle.definitions.specs.time.Calendar.{minutes_per_day, minutes_per_hour, utc_fields}
use Rattle.definitions.specs.codes.Allowed.{allowed, dcf_facts, msf_facts}
use Rattle.definitions.specs.time.Summer.{is_eu_summer, is_eu_change, us_code}

-- how many days come before a month, where the year isn't a leap year
abbrev pub days_before : ℕ → ℕ
days_before month =
    slice_index (0 ∷ 31 ∷ 59 ∷ 90 ∷ 120 ∷ 151 ∷ 181 ∷ 212 ∷ 243 ∷ 273 ∷ 304 ∷ 334 ∷ []) (month - 1)

-- The day of a date of the years 2000 to 2099, counted from 2000-01-01: in one step, and not day after day as the
-- calendar is defined.
abbrev pub on : ℕ → ℕ → ℕ → ℕ
on year month day =
    365 * (year - 2000) + (year - 1997) / 4 + days_before month
    + (if nat_lt 2 month && (year % 4 == 0) then day else day - 1)

-- a minute of a day
abbrev pub at : ℕ → ℕ → ℕ → ℕ
at day hour minute = day * minutes_per_day + hour * minutes_per_hour + minute

-- of each month, from January to December: a leap second may come at its end, in June and in December
abbrev pub months_of_leap_seconds : List Bool
months_of_leap_seconds =
    false ∷ false ∷ false ∷ false ∷ false ∷ true ∷ false ∷ false ∷ false ∷ false ∷ false ∷ true ∷ []

-- the first minute of 1 January or of 1 July
abbrev pub begins_half_year : ℕ → Bool
begins_half_year t =
    let f = utc_fields t in
    ((f.month == 1) || (f.month == 7)) && (f.day == 1) && ((f.hour == 0) && (f.minute == 0))

-- of a day: whether 00:59 UTC is in European summer time, whether a change stands at 01:00, whether that is in it
abbrev pub eu_around : ℕ → List Bool
eu_around n =
    is_eu_summer (n * minutes_per_day + 59) ∷ is_eu_change (n * minutes_per_day + 60)
    ∷ is_eu_summer (n * minutes_per_day + 60) ∷ []

-- WWVB's two bits on the day before, on this day and on the day after
abbrev pub us_around : ℕ → List ℕ
us_around n = map (λ k. us_code (k * minutes_per_day)) ((n - 1) ∷ n ∷ (n + 1) ∷ [])

-- what WWVB's seconds 57 and 58 may carry on the day before, on this day and on the day after
abbrev pub us_seconds : ℕ → List (ℕ × ℕ)
us_seconds n =
    map (λ k. (allowed Wwvb false (k * minutes_per_day, 57), allowed Wwvb false (k * minutes_per_day, 58)))
    ((n - 1) ∷ n ∷ (n + 1) ∷ [])

-- the minutes 00:58, 00:59 and 01:00 UTC of a day
abbrev pub around_one : ℕ → List ℕ
around_one n = (n * minutes_per_day + 58) ∷ (n * minutes_per_day + 59) ∷ (n * minutes_per_day + 60) ∷ []

-- what DCF77 and MSF send in them: the hour and the minute, whether it is in summer time, and whether a change is
-- announced
abbrev pub dcf77_around : ℕ → List (ℕ × ℕ × Bool × Bool)
dcf77_around n = map (λ t. let f = dcf_facts false t in (f.hour, f.minute, f.summer, f.change)) (around_one n)

abbrev pub msf_around : ℕ → List (ℕ × ℕ × Bool × Bool)
msf_around n = map (λ t. let f = msf_facts false t in (f.hour, f.minute, f.summer, f.change)) (around_one n)
