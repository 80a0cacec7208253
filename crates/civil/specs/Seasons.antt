-- How summer time passes from day to day, and the minutes at which Europe's changes.
use Rattle.std.specs.Prelude.{ℕ, ◌≡◌, ◌+◌, ◌%◌, ◌<◌, ◌≤◌, Bool, false, true, ◌||◌, if◌then◌else◌}
use Rattle.definitions.specs.declared.day.Day.{Day}
use Rattle.definitions.specs.time.Calendar.{minutes_per_day}
use Rattle.definitions.specs.time.Summer.{season_at, is_last_sunday, us_begins, us_ends}

-- a season is on as the day after begins
abbrev pub season_after : Bool → Bool → Bool → Bool
season_after begins ends on = if begins then true else if ends then false else on

abbrev pub eu_season_after : Day → Bool → Bool
eu_season_after d on = season_after (is_last_sunday 3 d) (is_last_sunday 10 d) on

abbrev pub us_season_after : Day → Bool → Bool
us_season_after d on = season_after (us_begins d) (us_ends d) on

-- the American season as the day that comes n days after the first begins
abbrev pub us_season : ℕ → Bool
us_season n = (season_at us_begins us_ends n).1

-- European summer time begins or ends in the course of the day
abbrev pub is_eu_change_day : Day → Bool
is_eu_change_day d = is_last_sunday 3 d || is_last_sunday 10 d

-- c is the first minute after t that stands at 01:00 UTC
pub record IsNextOneOclock (t c : ℕ) : Type 0 where
  pub after : t < c
  pub within : c ≤ t + minutes_per_day
  pub hour : c % minutes_per_day ≡ 60
