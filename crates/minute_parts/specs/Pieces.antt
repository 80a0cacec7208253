-- The minutes of a UTC day at which what a station tells by the date may change.
use Rattle.std.specs.Prelude.{ℕ, ◌≡◌, ◌+◌, ◌<◌, ◌≤◌, Bool, false, ◌==◌, ◌&&◌, ◌||◌, if◌then◌else◌}
use Rattle.signal_base.specs.declared.station.Station.{Station}
use Rattle.signal_base.specs.declared.station.Station.TheVariants.{Dcf77, Msf, Wwvb, Jjy}
use Rattle.definitions.specs.declared.day.Day.{Day}
use Rattle.definitions.specs.time.Calendar.{day_at, minutes_per_day}
use Rattle.civil.specs.Seasons.{is_eu_change_day}
use Rattle.minute_parts.specs.declared.pieces.TheConstants.{DCF77_SUMMER_MIDNIGHT, DCF77_WINTER_MIDNIGHT, JAPANESE_MIDNIGHT, LAST_HOUR, MSF_SUMMER_MIDNIGHT, MSF_WINTER_MIDNIGHT, NEXT_IS_ONE, ONE_OCLOCK}

-- no such minute lies between the two: after m and before e
abbrev pub IsUncut : ℕ → ℕ → ℕ → Type 0
IsUncut m e cut = m < cut → e ≤ cut

pub record IsDcfPiece (m e : ℕ) : Type 0 where
  pub next_is_one : IsUncut m e NEXT_IS_ONE
  pub one_oclock : IsUncut m e ONE_OCLOCK
  pub summer_midnight : IsUncut m e DCF77_SUMMER_MIDNIGHT
  pub winter_midnight : IsUncut m e DCF77_WINTER_MIDNIGHT
  pub last_hour : IsUncut m e LAST_HOUR

pub record IsMsfPiece (m e : ℕ) : Type 0 where
  pub next_is_one : IsUncut m e NEXT_IS_ONE
  pub one_oclock : IsUncut m e ONE_OCLOCK
  pub summer_midnight : IsUncut m e MSF_SUMMER_MIDNIGHT
  pub winter_midnight : IsUncut m e MSF_WINTER_MIDNIGHT

-- the minutes of the day from m on, up to e, are of one piece
abbrev pub IsPiece : Station → ℕ → ℕ → Type 0
IsPiece Dcf77 m e = IsDcfPiece m e
IsPiece Msf m e = IsMsfPiece m e
IsPiece Wwvb m e = Unit {0}
IsPiece Jjy m e = IsUncut m e JAPANESE_MIDNIGHT

-- the day ends with a leap second, where one is announced
abbrev pub is_leap_day : Day → Bool
is_leap_day d = (d.month == 6) && (d.day == 30) || (d.month == 12) && (d.day == 31)

-- On such a day the station tells of no change but that of the local day: on none of a change of summer time, for DCF77, or of
-- one that comes on it or on the next, for MSF, and for DCF77 on none that ends with a leap second.
abbrev pub IsPlainDay : Station → ℕ → Type 0
IsPlainDay Dcf77 n = (is_eu_change_day (day_at n) ≡ false) × (is_leap_day (day_at n) ≡ false)
IsPlainDay Msf n = (is_eu_change_day (day_at n) ≡ false) × (is_eu_change_day (day_at (n + 1)) ≡ false)
IsPlainDay Wwvb n = ⊥
IsPlainDay Jjy n = ⊥

-- the minute of a UTC day from which on a minute of the next local day is encoded
abbrev pub local_midnight : Station → Bool → ℕ
local_midnight Dcf77 summer = if summer then DCF77_SUMMER_MIDNIGHT else DCF77_WINTER_MIDNIGHT
local_midnight Msf summer = if summer then MSF_SUMMER_MIDNIGHT else MSF_WINTER_MIDNIGHT
local_midnight Wwvb summer = minutes_per_day
local_midnight Jjy summer = JAPANESE_MIDNIGHT
