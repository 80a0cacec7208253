-- Where the minutes end that a station can encode.
use Rattle.std.proofs.Common.{◌≡◌, ℕ, ◌+◌, ◌-◌, ◌/◌, ◌%◌, ◌<◌, ◌≤◌, ◌↔◌, inl, inr, Bool, true, false, if◌then◌else◌, refl, ap, subst, sym, arith}
use Rattle.std.proofs.lemmas.Bool.{cases_lt, le-ltb}
use Rattle.signal_base.specs.declared.station.Station.{Station}
use Rattle.signal_base.specs.declared.station.Station.TheVariants.{Dcf77, Msf, Wwvb, Jjy}
use Rattle.definitions.specs.time.Calendar.{century_minutes, day_at}
use Rattle.definitions.specs.time.Summer.{eu_season, is_eu_summer, season_at}
use Rattle.definitions.specs.codes.Allowed.{encoded_year}
use Rattle.definitions.proofs.CenturyLaws.{known}
use Rattle.definitions.proofs.DateLaws.{years_rise}
use Rattle.minute_parts.specs.Dates.{date_facts, shift_by, winter_shift}
use Rattle.minute_parts.proofs.FactLaws.{shifted}

-- the years of the century's days, and of those after them
early_day : (n : ℕ) → n < 36525 → (day_at n).year ≤ 2099
early_day n lt = let k = known n lt in omega (arith, k.early, k.after)

first_of_2100 : (day_at 36525).year ≡ 2100
unfolding day_at
first_of_2100 = refl

late_day : (n : ℕ) → 36525 ≤ n → 2100 ≤ (day_at n).year
late_day n le =
    let there : 36525 + (n - 36525) ≡ n = omega arith in
    omega (arith, years_rise 36525 (n - 36525), ap (λ m. (day_at m).year) there, first_of_2100)

-- the century ends in winter
last_season : eu_season 36525 ≡ false
unfolding season_at
last_season = refl

last_day : (t : ℕ) → 52594620 ≤ t → t < century_minutes → is_eu_summer t ≡ false
last_day t from to =
    let hour : 60 ≤ t % 1440 = omega arith in
    let day : t / 1440 + 1 ≡ 36525 = omega arith in
    rw (le-ltb (t % 1440) 60 hour, day) last_season

late_winter : (station : Station) (t : ℕ) → t + winter_shift station < century_minutes → century_minutes ≤ t + (winter_shift station + 60)
    → (date_facts station t).summer ≡ false
late_winter Dcf77 t to from = last_day (t + 1) (omega (arith, from)) (omega (arith, to))
late_winter Msf t to from = last_day (t + 1) (omega (arith, from)) (omega (arith, to))
late_winter Wwvb t to from = refl
late_winter Jjy t to from = refl

year_is : (station : Station) (t : ℕ) → encoded_year station t ≡ (day_at ((t + shift_by station (date_facts station t)) / 1440)).year
year_is Dcf77 t = ap (λ x. (day_at (x / 1440)).year) (shifted Dcf77 t)
year_is Msf t = ap (λ x. (day_at (x / 1440)).year) (shifted Msf t)
year_is Wwvb t = ap (λ x. (day_at (x / 1440)).year) (shifted Wwvb t)
year_is Jjy t = ap (λ x. (day_at (x / 1440)).year) (shifted Jjy t)

-- a shift of less than an hour more than in winter
within_century : (station : Station) (t : ℕ) → t + winter_shift station < century_minutes → (summer : Bool) → (date_facts station t).summer ≡ summer
    → t + (winter_shift station + (if summer then 60 else 0)) < century_minutes
within_century station t lt false e = omega (arith, lt)
within_century station t lt true e = elim (cases_lt (t + (winter_shift station + 60)) century_minutes) [
  | inl less ↦ less
  | inr past ↦ let winter = late_winter station t lt past in absurd cc
]

pub ends : (station : Station) (t : ℕ) → t < century_minutes - winter_shift station ↔ ((t < century_minutes) × (encoded_year station t ≤ 2099))
ends station t = (
  λ lt.
      let before : t + winter_shift station < century_minutes = omega arith in
      let within = within_century station t before (date_facts station t).summer refl in
      (omega (arith, before), subst (λ y. y ≤ 2099) (sym (year_is station t)) (early_day ((t + shift_by station (date_facts station t)) / 1440) (omega (arith, within)))),
  λ both. elim (cases_lt t (century_minutes - winter_shift station)) [
    | inl less ↦ less
    | inr past ↦
        let day : 36525 ≤ (t + shift_by station (date_facts station t)) / 1440 = omega (arith, past) in
        absurd (omega (arith, both.1, year_is station t, late_day ((t + shift_by station (date_facts station t)) / 1440) day))
  ],
)
