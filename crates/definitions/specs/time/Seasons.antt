-- What a year's summer time is: one day on which it begins, one on which it ends, and the time between.
use Rattle.std.specs.Prelude.{ℕ, ◌+◌, ◌*◌, ◌/◌, ◌≡◌, ◌<◌, ◌≤◌, Bool, true, ◌==◌, ◌&&◌, nat_lt, if◌then◌else◌}
use Rattle.definitions.specs.declared.day.Day.{Day}
use Rattle.definitions.specs.time.Calendar.{day_at, century_days, century_minutes, minutes_per_day, utc_fields}
use Rattle.definitions.specs.time.Summer.{is_last_sunday, is_eu_summer, us_begins, us_ends, us_code}

-- one day of the year passes the test, this one
pub record IsTheDay (test : Day → Bool) (year n : ℕ) : Type 0 where
  pub within : n < century_days
  pub year_is : (day_at n).year ≡ year
  pub passes : test (day_at n) ≡ true
  pub only : (m : ℕ) → m < century_days → (day_at m).year ≡ year → test (day_at m) ≡ true → m ≡ n

-- 01:00 UTC of a day
abbrev pub change_on : ℕ → ℕ
change_on n = n * minutes_per_day + 60

-- in a year European summer time is from the last Sunday of March to the last of October, 01:00 UTC
pub record HasSummer (year march october : ℕ) : Type 0 where
  pub begins : IsTheDay (is_last_sunday 3) year march
  pub ends : IsTheDay (is_last_sunday 10) year october
  pub between : (t : ℕ) → t < century_minutes → (utc_fields t).year ≡ year → is_eu_summer t ≡ true
      → (change_on march ≤ t) × (t < change_on october)
  pub always : (t : ℕ) → t < century_minutes → (utc_fields t).year ≡ year → change_on march ≤ t → t < change_on october
      → is_eu_summer t ≡ true

-- WWVB's two bits of a day, where summer time of the United States begins and ends on these days of its year
abbrev pub american_code : ℕ → ℕ → ℕ → ℕ
american_code first last n =
    if n == first then 2 else if n == last then 1 else if nat_lt first n && nat_lt n last then 3 else 0

pub record HasAmericanSummer (year first last : ℕ) : Type 0 where
  pub begins : IsTheDay us_begins year first
  pub ends : IsTheDay us_ends year last
  pub in_order : first < last
  pub coded : (t : ℕ) → t < century_minutes → (utc_fields t).year ≡ year → us_code t ≡ american_code first last (t / minutes_per_day)
