-- What the fields of a date change in what it tells.
use Rattle.std.specs.Prelude.{ℕ, ◌≡◌, ◌+◌, ◌-◌, ◌*◌, ◌/◌, ◌%◌, ◌<◌, Bool, false, ◌==◌, if◌then◌else◌, List, bit_xor, length}
use Rattle.signal_base.specs.declared.station.Station.{Station}
use Rattle.definitions.specs.declared.day.Day.{Day}
use Rattle.definitions.specs.time.Calendar.{first_day}
use Rattle.minute_parts.specs.declared.date_rows.DateField.{DateField}
use Rattle.minute_parts.specs.declared.date_rows.DateField.TheVariants.{DayOfMonth, DayOfYear, Flags, Month, Weekday, Year}
use Rattle.minute_parts.specs.declared.dates.DateFacts.{DateFacts}
use Rattle.minute_parts.specs.Dates.{date_set, some_date}
use Rattle.minute_parts.specs.Times.{entry}

-- the flags as one number
abbrev pub flag : Bool → ℕ
flag on = if on then 1 else 0

abbrev pub flags_of : DateFacts → ℕ
flags_of f = f.us_code * 8 + flag f.leap * 4 + flag f.change * 2 + flag f.summer

-- the number of a field's value, counted from 0
abbrev pub value_of : DateField → DateFacts → ℕ
value_of Flags f = flags_of f
value_of Year f = f.day.year - 2000
value_of Month f = f.day.month - 1
value_of DayOfMonth f = f.day.day - 1
value_of Weekday f = f.day.weekday
value_of DayOfYear f = f.day.day_of_year - 1

-- how many there are
abbrev pub count_of : DateField → ℕ
count_of Flags = 32
count_of Year = 101
count_of Month = 12
count_of DayOfMonth = 31
count_of Weekday = 7
count_of DayOfYear = 366

-- some date with these flags
abbrev pub with_flags : ℕ → DateFacts
with_flags k = record { day = first_day; summer = k % 2 == 1; change = k / 2 % 2 == 1; us_code = k / 8; leap = k / 4 % 2 == 1 }

-- no flags on a day
abbrev pub on_day : Day → DateFacts
on_day d = record { day = d; summer = false; change = false; us_code = 0; leap = false }

-- some date with the value of this number in one of its fields
abbrev pub with_value : DateField → ℕ → DateFacts
with_value Flags k = with_flags k
with_value Year k = on_day (record first_day { year = 2000 + k })
with_value Month k = on_day (record first_day { month = 1 + k })
with_value DayOfMonth k = on_day (record first_day { day = 1 + k })
with_value Weekday k = on_day (record first_day { weekday = k })
with_value DayOfYear k = on_day (record first_day { day_of_year = 1 + k })

-- what these facts change of what some date tells of a second: symbols that only one of them has
abbrev pub changed : Station → DateFacts → ℕ → ℕ
changed station f s = bit_xor (date_set station f s) (date_set station some_date s)

-- what the first n values of a field change
pub record AreRows (station : Station) (field : DateField) (rows : List (List ℕ)) (n : ℕ) : Type 0 where
  pub count : length rows ≡ n
  pub each : (k s : ℕ) → k < n → s < 60 → entry rows k s ≡ changed station (with_value field k) s
