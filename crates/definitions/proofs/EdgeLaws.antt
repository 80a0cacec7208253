-- The last minutes that stations send in the century.
use Rattle.std.proofs.Common.{◌≡◌, ◌∙◌, ◌-◌, ℕ, ◌≤◌, true, false, refl, ap, arith}
use Rattle.signal_base.specs.declared.station.Station.{Station}
use Rattle.signal_base.specs.declared.station.Station.TheVariants.{Dcf77, Msf, Wwvb, Jjy}
use Rattle.definitions.specs.declared.sequence.Sequence.{Sequence}
use Rattle.definitions.specs.time.Calendar.{century_minutes}
use Rattle.definitions.specs.codes.Allowed.{encoded_year, has_station}
use Rattle.definitions.specs.sequences.Walks.{place_at, IsWalkable}
use Rattle.definitions.specs.examples.Sequences.{from_place, window_of}
use Rattle.definitions.proofs.LastDay.{as_in_winter, year_behind_it, year_of_the_last}
use Rattle.definitions.proofs.PlaceLaws.{place_at-plain}
use Rattle.definitions.proofs.MinuteLaws.{walkable}

year : encoded_year Dcf77 52595938 ≡ 2099
year = as_in_winter (century_minutes - 61) 120 60 ∙ year_of_the_last

next_year : encoded_year Dcf77 52595939 ≡ 2100
next_year = as_in_winter (century_minutes - 60) 120 60 ∙ year_behind_it

alone : (station : Station) → has_station (window_of 1 52595938 52595939).stations station ≡ true → encoded_year station 52595938 ≤ 2099
alone Dcf77 has = omega (arith, year)
alone Msf has = absurd cc
alone Wwvb has = absurd cc
alone Jjy has = absurd cc

pub first : IsWalkable (window_of 1 52595938 52595939) (from_place 52595938 0)
first = walkable false 52595938 refl 1 52595938 52595939 (omega arith) (omega arith) (omega arith, alone)

pub second : ¬ (IsWalkable (window_of 1 52595938 52595939) (from_place 52595938 1))
second is =
    let there : (place_at (from_place 52595938 1) 59).0 ≡ 52595939 = ap (λ (p : ℕ × ℕ). p.0) (place_at-plain (from_place 52595938 1) 59 refl (omega arith)) in
    omega (arith, (is.encoded 59 (omega arith)).1 Dcf77 refl, ap (encoded_year Dcf77) there, next_year)

pub range : ¬ (IsWalkable (window_of 1 52595937 52595938) (from_place 52595938 0))
range is = omega (arith, is.before_end)

-- no walk begins in the last minute of the century
pub last_minute : (lo hi : ℕ) (q : Sequence) → q.first ≡ 52595939 → ¬ (IsWalkable (window_of 1 lo hi) q)
unfolding place_at
last_minute lo hi q e is = omega (arith, (is.encoded 0 (omega arith)).1 Dcf77 refl, ap (encoded_year Dcf77) e, next_year)
