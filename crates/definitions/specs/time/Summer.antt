-- Summer time in Europe and in the United States: its changes are found by weekday, day after day.
use Rattle.std.specs.Prelude.{ℕ, zero, suc, ◌+◌, ◌/◌, ◌%◌, Bool, false, true, ◌==◌, ◌&&◌, ◌||◌, nat_lt, nat_le, if◌then◌else◌}
use Rattle.definitions.specs.declared.day.Day.{Day}
use Rattle.definitions.specs.time.Calendar.{first_day, next_day, day_at, month_length, minutes_per_day}

abbrev pub is_sunday_of : ℕ → Day → Bool
is_sunday_of month d = (d.month == month) && (d.weekday == 0)

-- the first Sunday of a month, the second, the last
abbrev pub is_first_sunday : ℕ → Day → Bool
is_first_sunday month d = is_sunday_of month d && nat_le d.day 7

abbrev pub is_second_sunday : ℕ → Day → Bool
is_second_sunday month d = is_sunday_of month d && (nat_lt 7 d.day && nat_le d.day 14)

abbrev pub is_last_sunday : ℕ → Day → Bool
is_last_sunday month d = is_sunday_of month d && nat_lt (month_length d.year d.month) (d.day + 7)

-- a day, and whether a season is on as it begins
abbrev pub DayAndSeason : Type 0
DayAndSeason = Day × Bool

abbrev pub day_of : DayAndSeason → Day
day_of s = s.0

abbrev pub is_in_season : DayAndSeason → Bool
is_in_season s = s.1

-- A season begins in the course of some days and ends in the course of others. The day that comes n days after the
-- first, and whether the season is on as that day begins.
unfoldable pub season_at : (Day → Bool) → (Day → Bool) → ℕ → DayAndSeason
season_at begins ends zero = (first_day, false)
season_at begins ends (suc n) =
    let s = season_at begins ends n in
    (next_day (day_of s), if begins (day_of s) then true else if ends (day_of s) then false else is_in_season s)

-- Europe: from the last Sunday of March to the last Sunday of October, at 01:00 UTC (Directive 2000/84/EC). The rule is
-- kept to 2099.
abbrev pub eu_season : ℕ → Bool
eu_season n = is_in_season (season_at (is_last_sunday 3) (is_last_sunday 10) n)

-- a minute is in European summer time
abbrev pub is_eu_summer : ℕ → Bool
is_eu_summer t =
    if nat_lt (t % minutes_per_day) 60
    then eu_season (t / minutes_per_day)
    else eu_season (t / minutes_per_day + 1)

-- summer time begins or ends as this minute begins
abbrev pub is_eu_change : ℕ → Bool
is_eu_change t =
    let d = day_at (t / minutes_per_day) in
    (t % minutes_per_day == 60) && (is_last_sunday 3 d || is_last_sunday 10 d)

-- a change stands in the n minutes after t
unfoldable pub eu_change_within : ℕ → ℕ → Bool
eu_change_within t zero = false
eu_change_within t (suc n) = is_eu_change (t + suc n) || eu_change_within t n

-- The United States: to 2006 from the first Sunday of April to the last of October, from 2007 on from the second
-- Sunday of March to the first of November (Energy Policy Act of 2005). The rule is kept to 2099.
abbrev pub us_begins : Day → Bool
us_begins d = if nat_lt d.year 2007 then is_first_sunday 4 d else is_second_sunday 3 d

abbrev pub us_ends : Day → Bool
us_ends d = if nat_lt d.year 2007 then is_last_sunday 10 d else is_first_sunday 11 d

-- WWVB's two bits by the UTC day (NIST Special Publication 432): 2 as summer time begins on it, 3 in summer time, 1 as it ends on it, 0 otherwise
abbrev pub us_code_on : DayAndSeason → ℕ
us_code_on s = if us_begins (day_of s) then 2 else if us_ends (day_of s) then 1 else if is_in_season s then 3 else 0

abbrev pub us_code : ℕ → ℕ
us_code t = us_code_on (season_at us_begins us_ends (t / minutes_per_day))
