-- The table of days.
use Rattle.std.specs.Prelude.{ℕ, ◌≡◌, ◌<◌, ◌≤◌, List, false, slice_index_or}
use Rattle.definitions.specs.declared.day.Day.{Day}
use Rattle.definitions.specs.declared.fields.Fields.{Fields}
use Rattle.definitions.specs.time.Calendar.{day_at, first_day}
use Rattle.definitions.specs.time.Summer.{eu_season}
use Rattle.civil.specs.declared.days.Entry.{Entry}
use Rattle.civil.specs.Seasons.{us_season}

-- the entry of the day that comes n days after the first
abbrev pub entry_at : ℕ → Entry
entry_at n = record { day = day_at n; eu_summer = eu_season n; us_summer = us_season n }

abbrev pub first_entry : Entry
first_entry = record { day = first_day; eu_summer = false; us_summer = false }

-- the entries of the first n days in order
abbrev pub AreEntries : List Entry → ℕ → Type 0
AreEntries entries n = (k : ℕ) → k < n → slice_index_or entries k first_entry ≡ entry_at k

-- the numbers that the fields of a day can be
pub record IsPlausible (d : Day) : Type 0 where
  pub year : (2000 ≤ d.year) × (d.year ≤ 2100)
  pub month : (1 ≤ d.month) × (d.month ≤ 12)
  pub day : (1 ≤ d.day) × (d.day ≤ 31)
  pub weekday : d.weekday < 7
  pub day_of_year : (1 ≤ d.day_of_year) × (d.day_of_year ≤ 366)

-- the same of a minute
pub record ArePlausible (f : Fields) : Type 0 where
  pub year : (2000 ≤ f.year) × (f.year ≤ 2100)
  pub month : (1 ≤ f.month) × (f.month ≤ 12)
  pub day : (1 ≤ f.day) × (f.day ≤ 31)
  pub weekday : f.weekday < 7
  pub day_of_year : (1 ≤ f.day_of_year) × (f.day_of_year ≤ 366)
  pub hour : f.hour < 24
  pub minute : f.minute < 60
