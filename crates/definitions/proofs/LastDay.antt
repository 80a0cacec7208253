-- The last day of the century and the first behind it, each with European summer time as it begins: from one walk over
-- the days, for what examples ask of them.
use Rattle.std.proofs.Common.{◌≡◌, ◌∙◌, ◌+◌, ◌-◌, ◌/◌, ℕ, suc, true, false, if◌then◌else◌, refl, sym, ap}
use Rattle.definitions.specs.declared.day.Day.{Day}
use Rattle.definitions.specs.time.Calendar.{century_days, day_at, minutes_per_day, next_day}
use Rattle.definitions.specs.time.Summer.{DayAndSeason, eu_season, is_last_sunday, season_at}
use Rattle.definitions.proofs.CenturyLaws.{day_of_state, march_day, october_day}

abbrev europe : ℕ → DayAndSeason
europe n = season_at (is_last_sunday 3) (is_last_sunday 10) n

abbrev next : DayAndSeason → DayAndSeason
next s = (next_day s.0, if is_last_sunday 3 s.0 then true else if is_last_sunday 10 s.0 then false else s.1)

abbrev pub last_of_2099 : Day
last_of_2099 = record { year = 2099; month = 12; day = 31; weekday = 4; day_of_year = 365 }

abbrev first_of_2100 : Day
first_of_2100 = record { year = 2100; month = 1; day = 1; weekday = 5; day_of_year = 1 }

the_last : europe (century_days - 1) ≡ (last_of_2099, false)
unfolding season_at
the_last = refl

step : (n : ℕ) → europe (suc n) ≡ next (europe n)
unfolding season_at
step n = refl

behind_it : europe century_days ≡ (first_of_2100, false)
behind_it = step (century_days - 1) ∙ ap next the_last

day : (n : ℕ) → day_at n ≡ (europe n).0
day n = sym (day_of_state (is_last_sunday 3) (is_last_sunday 10) march_day october_day n)

pub last_day : day_at (century_days - 1) ≡ last_of_2099
last_day = day (century_days - 1) ∙ ap (λ (s : DayAndSeason). s.0) the_last

pub year_of_the_last : (day_at (century_days - 1)).year ≡ 2099
year_of_the_last = ap (λ (d : Day). d.year) last_day

pub year_behind_it : (day_at century_days).year ≡ 2100
year_behind_it = ap (λ (d : Day). d.year) (day century_days ∙ ap (λ (s : DayAndSeason). s.0) behind_it)

-- Clocks that are ahead by so many minutes more in summer time: at the end of the century they are as in winter.
pub as_in_winter : (t summer winter : ℕ)
    → (day_at ((t + (if eu_season century_days then summer else winter)) / minutes_per_day)).year ≡ (day_at ((t + winter) / minutes_per_day)).year
as_in_winter t summer winter =
    ap (λ (s : DayAndSeason). (day_at ((t + (if s.1 then summer else winter)) / minutes_per_day)).year) behind_it
