-- A minute's telegram in two parts: what the time of day tells, and what the date tells.
use Rattle.std.specs.Prelude.{ℕ, ◌+◌, ◌-◌, ◌%◌, Bool, false, ◌==◌, ◌&&◌, ◌||◌, if◌then◌else◌}
use Rattle.signal_base.specs.declared.station.Station.{Station}
use Rattle.signal_base.specs.declared.station.Station.TheVariants.{Dcf77, Msf, Wwvb, Jjy}
use Rattle.definitions.specs.time.Calendar.{minutes_per_hour}
use Rattle.definitions.specs.codes.Vocabulary.{is_within}
use Rattle.minute_parts.specs.declared.call.TheConstants.{CALL_BEGIN, CALL_END, CALL_MARKER, CALL_MINUTE, CALL_MINUTES}

-- what a second carries: what the time of day tells of it, else what the date tells
abbrev pub overlay : ℕ → ℕ → ℕ
overlay time date = if time == 0 then date else time

-- the seconds of the minute and the hour at WWVB and JJY
abbrev pub is_clock_second : ℕ → Bool
is_clock_second s = is_within 1 3 s || is_within 5 8 s || is_within 12 13 s || is_within 15 18 s

-- the seconds that the time of day always tells: those of the minute, of the hour and of their parities
abbrev pub is_time_second : Station → ℕ → Bool
is_time_second Dcf77 s = is_within 21 35 s
is_time_second Msf s = is_within 39 51 s || (s == 57)
is_time_second Wwvb s = is_clock_second s
is_time_second Jjy s = is_clock_second s || is_within 36 37 s

-- JJY sends its call sign in the minutes 15 and 45 of each hour
abbrev pub is_call_minute : ℕ → Bool
is_call_minute u = (u % minutes_per_hour == CALL_MINUTE) || (u % minutes_per_hour == CALL_MINUTE + CALL_MINUTES)

-- and gives up these seconds for it, all from 40 to 55 but the marker in their midst; no other station does
abbrev pub is_given_up : Station → ℕ → Bool
is_given_up Jjy s = is_within CALL_BEGIN (CALL_MARKER - 1) s || is_within (CALL_MARKER + 1) (CALL_END - 1) s
is_given_up station s = false

-- the seconds that the time of day tells in the minute u of the local day
abbrev pub tells_time : Station → ℕ → ℕ → Bool
tells_time Dcf77 u s = is_time_second Dcf77 s
tells_time Msf u s = is_time_second Msf s
tells_time Wwvb u s = is_time_second Wwvb s
tells_time Jjy u s = is_time_second Jjy s || (is_call_minute u && is_given_up Jjy s)
