-- The last minutes that stations can be asked to send.
use Rattle.std.proofs.Common.{◌≡◌, ℕ, ◌+◌, ◌-◌, ◌/◌, ◌%◌, ◌<◌, ◌≤◌, Bool, true, false, nat_lt, nat_le, if◌then◌else◌, refl, ap, inl, inr, arith, lt-ltb, le-ltb, le-leb}
use Rattle.std.proofs.lemmas.Bool.{cases_lt, lt-leb}
use Rattle.signal_base.specs.declared.station.Station.{Station}
use Rattle.signal_base.specs.declared.station.Station.TheVariants.{Dcf77, Msf, Wwvb, Jjy}
use Rattle.definitions.specs.time.Calendar.{century_minutes, day_at, minutes_per_day, utc_fields}
use Rattle.definitions.specs.time.Summer.{eu_season, is_eu_summer, season_at}
use Rattle.definitions.specs.codes.Allowed.{encoded_year}
use Rattle.definitions.proofs.DateLaws.{years_rise}

last_year : (day_at 36524).year ≡ 2099
unfolding day_at
last_year = refl

year_after : (day_at 36525).year ≡ 2100
unfolding day_at
year_after = refl

last_season : eu_season 36525 ≡ false
unfolding season_at
last_season = refl

-- a minute is of a year before 2100 if it is of the century
early : (n : ℕ) → n < century_minutes → (utc_fields n).year < 2100
early n lt =
    let d = n / minutes_per_day in
    let there : d + (36524 - d) ≡ 36524 = omega arith in
    omega (arith, years_rise d (36524 - d), ap (λ k. (day_at k).year) there, last_year)

late : (n : ℕ) → century_minutes ≤ n → 2100 ≤ (utc_fields n).year
late n ge =
    let d = n / minutes_per_day in
    let there : 36525 + (d - 36525) ≡ d = omega arith in
    omega (arith, years_rise 36525 (d - 36525), ap (λ k. (day_at k).year) there, year_after)

-- the last hours of the century from 01:00 UTC on are not in summer time
winter : (t : ℕ) → century_minutes - 1380 ≤ t → t < century_minutes → is_eu_summer t ≡ false
winter t from below =
    let day : t / minutes_per_day ≡ 36524 = omega arith in
    let clock : 60 ≤ t % minutes_per_day = omega arith in
    rw (le-ltb (t % minutes_per_day) 60 clock, day) last_season

-- the test of a station's years is that of its last minute
module _ (station : Station) (t last : ℕ) (within : t ≤ last → encoded_year station t < 2100) (beyond : last < t → 2100 ≤ encoded_year station t) where
  tests_agree : nat_lt (encoded_year station t) 2100 ≡ nat_le t last
  tests_agree =
      elim (cases_lt last t) [
        | inl lt ↦ rw (le-ltb (encoded_year station t) 2100 (beyond lt), lt-leb t last lt) refl
        | inr le ↦ rw (lt-ltb (encoded_year station t) 2100 (within le), le-leb t last le) refl
      ]

-- The minute after t, in a zone that is ahead of UTC by so many minutes in winter, and by an hour more in summer.
module _ (ahead t : ℕ) (few : ahead ≤ 60) where
  shown : Bool → ℕ
  shown summer = t + 1 + (if summer then ahead + 60 else ahead)

  shown_within : t ≤ century_minutes - 2 - ahead → shown (is_eu_summer (t + 1)) < century_minutes
  unfolding shown
  shown_within le = by_season (is_eu_summer (t + 1)) refl
    where
      by_season : (b : Bool) → is_eu_summer (t + 1) ≡ b → t + 1 + (if b then ahead + 60 else ahead) < century_minutes
      by_season false e = omega arith
      by_season true e =
          elim (cases_lt t (century_minutes - 61 - ahead)) [
            | inl far ↦ omega arith
            | inr near ↦ absurd (let w = winter (t + 1) (omega arith) (omega arith) in cc)
          ]

  shown_beyond : century_minutes - 2 - ahead < t → century_minutes ≤ shown (is_eu_summer (t + 1))
  unfolding shown
  shown_beyond gt = by_season (is_eu_summer (t + 1))
    where
      by_season : (b : Bool) → century_minutes ≤ t + 1 + (if b then ahead + 60 else ahead)
      by_season true = omega arith
      by_season false = omega arith

pub dcf77 : (t : ℕ) → t < century_minutes → nat_lt (encoded_year Dcf77 t) 2100 ≡ nat_le t (century_minutes - 62)
unfolding shown
dcf77 t lt = tests_agree Dcf77 t (century_minutes - 62) (λ le. early _ (shown_within 60 t (omega arith) le)) (λ gt. late _ (shown_beyond 60 t (omega arith) gt))

pub msf : (t : ℕ) → t < century_minutes → nat_lt (encoded_year Msf t) 2100 ≡ nat_le t (century_minutes - 2)
unfolding shown
msf t lt = tests_agree Msf t (century_minutes - 2) (λ le. early _ (shown_within 0 t (omega arith) le)) (λ gt. late _ (shown_beyond 0 t (omega arith) gt))

pub wwvb : (t : ℕ) → t < century_minutes → nat_lt (encoded_year Wwvb t) 2100 ≡ nat_le t (century_minutes - 1)
wwvb t lt = tests_agree Wwvb t (century_minutes - 1) (λ le. early (t + 0) (omega arith)) (λ gt. late (t + 0) (omega arith))

pub jjy : (t : ℕ) → t < century_minutes → nat_lt (encoded_year Jjy t) 2100 ≡ nat_le t (century_minutes - 541)
jjy t lt = tests_agree Jjy t (century_minutes - 541) (λ le. early (t + 540) (omega arith)) (λ gt. late (t + 540) (omega arith))
