-- The facts of a minute by its date, and the two parts of its telegram.
use Rattle.std.specs.Prelude.{ℕ, ◌+◌, ◌*◌, ◌/◌, ◌%◌, Bool, false, ◌<◌, ◌&&◌, nat_lt, if◌then◌else◌, List, map}
use Rattle.std.specs.List.{range_with_len}
use Rattle.signal_base.specs.declared.station.Station.{Station}
use Rattle.signal_base.specs.declared.station.Station.TheVariants.{Dcf77, Msf, Wwvb, Jjy}
use Rattle.definitions.specs.declared.dcf77.DcfFacts.{DcfFacts}
use Rattle.definitions.specs.declared.msf.MsfFacts.{MsfFacts}
use Rattle.definitions.specs.declared.wwvb.WwvbFacts.{WwvbFacts}
use Rattle.definitions.specs.declared.jjy.JjyFacts.{JjyFacts}
use Rattle.definitions.specs.declared.day.Day.{Day}
use Rattle.definitions.specs.time.Calendar.{day_at, first_day, is_leap_end, is_leap_month, minutes_per_day, minutes_per_hour, utc_fields}
use Rattle.definitions.specs.time.Summer.{eu_change_within, is_eu_summer, us_code}
use Rattle.definitions.specs.time.Zones.{zone_shift}
use Rattle.definitions.specs.codes.Allowed.{encoded_minute, zone_of}
use Rattle.definitions.specs.codes.Dcf77.{dcf_second}
use Rattle.definitions.specs.codes.Msf.{msf_second}
use Rattle.definitions.specs.codes.Wwvb.{wwvb_second}
use Rattle.definitions.specs.codes.Jjy.{jjy_second}
use Rattle.civil.specs.Days.{IsPlausible}
use Rattle.minute_parts.specs.declared.dates.DateFacts.{DateFacts}
use Rattle.minute_parts.specs.Overlay.{is_time_second, tells_time}

-- the day in a station's time to which the minute belongs that it encodes
abbrev pub encoded_day : Station → ℕ → Day
encoded_day station t =
    let n = encoded_minute station t in
    day_at ((n + zone_shift (zone_of station) n) / minutes_per_day)

-- what a minute tells besides the time of day, where a leap second is announced
abbrev pub date_facts : Station → ℕ → DateFacts
date_facts Dcf77 t =
    record {
      day = encoded_day Dcf77 t;
      summer = is_eu_summer (t + 1);
      change = eu_change_within t 60;
      us_code = 0;
      leap = is_leap_end (t / minutes_per_hour * minutes_per_hour + 59);
    }
date_facts Msf t =
    record { day = encoded_day Msf t; summer = is_eu_summer (t + 1); change = eu_change_within t 61; us_code = 0; leap = false }
date_facts Wwvb t =
    record { day = encoded_day Wwvb t; summer = false; change = false; us_code = us_code t; leap = is_leap_month (utc_fields t) }
date_facts Jjy t =
    record {
      day = encoded_day Jjy t;
      summer = false;
      change = false;
      us_code = 0;
      leap = is_leap_month (utc_fields t) && nat_lt 1 (utc_fields t).day;
    }

-- they are in their ranges
pub record AreInRange (f : DateFacts) : Type 0 where
  pub day : IsPlausible f.day
  pub us_code : f.us_code < 4

-- the same where none is announced
abbrev pub unannounced : DateFacts → DateFacts
unannounced f = record f { leap = false }

-- what a minute tells where a leap second is announced, or where none is
abbrev pub facts_where : Bool → DateFacts → DateFacts
facts_where announced f = if announced then f else unannounced f

-- by how many minutes the local time that a station encodes is ahead of UTC in winter
abbrev pub winter_shift : Station → ℕ
winter_shift Dcf77 = 61
winter_shift Msf = 1
winter_shift Wwvb = 0
winter_shift Jjy = 540

-- and by the facts of a date
abbrev pub shift_by : Station → DateFacts → ℕ
shift_by station f = winter_shift station + (if f.summer then 60 else 0)

-- the facts of DCF77, where the minute u of the local day is encoded, and so on
abbrev pub dcf_facts_by : DateFacts → ℕ → DcfFacts
dcf_facts_by f u =
    record {
      minute = u % minutes_per_hour;
      hour = u / minutes_per_hour;
      day = f.day.day;
      weekday = f.day.weekday;
      month = f.day.month;
      year = f.day.year % 100;
      summer = f.summer;
      change = f.change;
      leap = f.leap;
      long = false;
    }

abbrev pub msf_facts_by : DateFacts → ℕ → MsfFacts
msf_facts_by f u =
    record {
      minute = u % minutes_per_hour;
      hour = u / minutes_per_hour;
      day = f.day.day;
      weekday = f.day.weekday;
      month = f.day.month;
      year = f.day.year % 100;
      summer = f.summer;
      change = f.change;
      long = false;
    }

abbrev pub wwvb_facts_by : DateFacts → ℕ → WwvbFacts
wwvb_facts_by f u =
    record {
      minute = u % minutes_per_hour;
      hour = u / minutes_per_hour;
      day_of_year = f.day.day_of_year;
      year = f.day.year % 100;
      us_code = f.us_code;
      leap = f.leap;
      long = false;
    }

abbrev pub jjy_facts_by : DateFacts → ℕ → JjyFacts
jjy_facts_by f u =
    record {
      minute = u % minutes_per_hour;
      hour = u / minutes_per_hour;
      day_of_year = f.day.day_of_year;
      year = f.day.year % 100;
      weekday = f.day.weekday;
      leap = f.leap;
      long = false;
    }

-- what a second of a minute of 60 seconds may carry
abbrev pub set_by : Station → DateFacts → ℕ → ℕ → ℕ
set_by Dcf77 f u s = dcf_second (dcf_facts_by f u) s
set_by Msf f u s = msf_second (msf_facts_by f u) s
set_by Wwvb f u s = wwvb_second (wwvb_facts_by f u) s
set_by Jjy f u s = jjy_second (jjy_facts_by f u) s

-- the facts of some date
abbrev pub some_date : DateFacts
some_date = record { day = first_day; summer = false; change = false; us_code = 0; leap = false }

-- what the time of day tells of a second, and 0 where it tells nothing
abbrev pub time_set : Station → ℕ → ℕ → ℕ
time_set station u s = if tells_time station u s then set_by station some_date u s else 0

-- what the date tells of a second, and 0 where the time of day always tells it
abbrev pub date_set : Station → DateFacts → ℕ → ℕ
date_set station f s = if is_time_second station s then 0 else set_by station f 0 s

-- the two parts of a minute
unfoldable pub time_part : Station → ℕ → List ℕ
time_part station u = map (time_set station u) (range_with_len 0 60)

unfoldable pub date_part : Station → DateFacts → List ℕ
date_part station f = map (date_set station f) (range_with_len 0 60)
