-- Days and jiff's dates.
use Rattle.std.specs.Prelude.{◌≡◌, ℕ, ◌+◌, ◌%◌, pos}
use Rattle.jiff_core.specs.declared.civil.date.Date.{Date}
use Rattle.jiff_core.specs.Date.{epoch_day, ordinal, weekday_of}
use Rattle.definitions.specs.declared.day.Day.{Day}

-- jiff's date is this day
pub record IsOn (date : Date) (d : Day) : Type 0 where
  pub year : date.year ≡ pos d.year
  pub month : date.month ≡ d.month
  pub day : date.day ≡ d.day
  pub weekday : (weekday_of date + 1) % 7 ≡ d.weekday
  pub place : ordinal date ≡ d.day_of_year

-- the date comes n days after 2000-01-01, which is jiff's day 10,957, counted from 1970-01-01
abbrev pub IsNumbered : Date → ℕ → Type 0
IsNumbered date n = epoch_day date ≡ pos (10957 + n)
