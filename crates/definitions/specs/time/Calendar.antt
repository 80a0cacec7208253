-- The calendar: days one after another from Saturday 2000-01-01, by month lengths and the Gregorian leap rule.
use Rattle.std.specs.Prelude.{ℕ, zero, suc, ◌+◌, ◌/◌, ◌%◌, Bool, ◌==◌, ◌&&◌, ◌||◌, not, nat_lt, if◌then◌else◌}
use Rattle.definitions.specs.declared.calendar.TheConstants.{MINUTES_PER_HOUR, MINUTES_PER_DAY, CENTURY_DAYS, CENTURY_MINUTES}
use Rattle.definitions.specs.declared.day.Day.{Day}
use Rattle.definitions.specs.declared.fields.Fields.{Fields}

-- the Gregorian rule
abbrev pub is_leap_year : ℕ → Bool
is_leap_year year = (year % 4 == 0) && (not (year % 100 == 0) || (year % 400 == 0))

-- thirty days have April, June, September and November
abbrev pub month_length : ℕ → ℕ → ℕ
month_length year month =
    if month == 2 then (if is_leap_year year then 29 else 28)
    else if (month == 4) || (month == 6) || (month == 9) || (month == 11) then 30
    else 31

-- the next weekday
abbrev pub next_weekday : ℕ → ℕ
next_weekday weekday = if weekday == 6 then 0 else weekday + 1

-- the first day, a Saturday
abbrev pub first_day : Day
first_day = record { year = 2000; month = 1; day = 1; weekday = 6; day_of_year = 1 }

-- the day after
abbrev pub next_day : Day → Day
next_day d =
    if nat_lt d.day (month_length d.year d.month)
    then record { year = d.year; month = d.month; day = d.day + 1; weekday = next_weekday d.weekday; day_of_year = d.day_of_year + 1 }
    else if nat_lt d.month 12
    then record { year = d.year; month = d.month + 1; day = 1; weekday = next_weekday d.weekday; day_of_year = d.day_of_year + 1 }
    else record { year = d.year + 1; month = 1; day = 1; weekday = next_weekday d.weekday; day_of_year = 1 }

-- the day that comes n days after the first
unfoldable pub day_at : ℕ → Day
day_at zero = first_day
day_at (suc n) = next_day (day_at n)

abbrev pub minutes_per_hour : ℕ
minutes_per_hour = MINUTES_PER_HOUR

abbrev pub minutes_per_day : ℕ
minutes_per_day = MINUTES_PER_DAY

-- the days of the years 2000 to 2099
abbrev pub century_days : ℕ
century_days = CENTURY_DAYS

-- the minutes of the years 2000 to 2099
abbrev pub century_minutes : ℕ
century_minutes = CENTURY_MINUTES

-- the fields of a minute, counted from 2000-01-01T00:00
abbrev pub fields_on : Day → ℕ → Fields
fields_on d t =
    record {
      year = d.year;
      month = d.month;
      day = d.day;
      weekday = d.weekday;
      day_of_year = d.day_of_year;
      hour = (t % minutes_per_day) / minutes_per_hour;
      minute = t % minutes_per_hour;
    }

abbrev pub utc_fields : ℕ → Fields
utc_fields t = fields_on (day_at (t / minutes_per_day)) t

-- June or December, the months at whose end a leap second may come
abbrev pub is_leap_month : Fields → Bool
is_leap_month f = (f.month == 6) || (f.month == 12)

-- the last UTC minute of 30 June or 31 December
abbrev pub is_leap_end : ℕ → Bool
is_leap_end t =
    (t % minutes_per_day == 1439)
    && (((utc_fields t).month == 6) && ((utc_fields t).day == 30)
    || ((utc_fields t).month == 12) && ((utc_fields t).day == 31))

-- how many seconds a minute has
abbrev pub minute_length : Bool → ℕ → ℕ
minute_length announced t = if announced && is_leap_end t then 61 else 60
