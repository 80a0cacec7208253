-- The last hours of WWVB and JJY.
use Rattle.std.proofs.Common.{◌≡◌, ◌-◌, ◌≤◌, true, false, refl, arith}
use Rattle.signal_base.specs.declared.station.Station.{Station}
use Rattle.signal_base.specs.declared.station.Station.TheVariants.{Dcf77, Msf, Wwvb, Jjy}
use Rattle.definitions.specs.time.Calendar.{century_minutes}
use Rattle.definitions.specs.codes.Allowed.{encoded_year, has_station}
use Rattle.definitions.specs.sequences.Walks.{place_at}
use Rattle.definitions.specs.examples.Sequences.{window_of}
use Rattle.definitions.proofs.LastDay.{year_behind_it, year_of_the_last}
use Rattle.definitions.proofs.MinuteLaws.{early, walkable}
use Rattle.definitions.proofs.examples.sequences.last_hours_of_a_bank.Goals as goal

wwvb_last : encoded_year Wwvb (century_minutes - 540) ≡ 2099
wwvb_last = year_of_the_last

jjy_last : encoded_year Jjy (century_minutes - 540) ≡ 2100
jjy_last = year_behind_it

alone : (station : Station) → has_station (window_of 4 0 century_minutes).stations station ≡ true → encoded_year station (century_minutes - 540) ≤ 2099
alone Wwvb has = omega (arith, wwvb_last)
alone Dcf77 has = absurd cc
alone Msf has = absurd cc
alone Jjy has = absurd cc

pub returns-clause-wwvb : goal.returns-clause-wwvb
returns-clause-wwvb c = walkable false (century_minutes - 540) refl 4 0 century_minutes (omega arith) (omega arith) (omega arith, alone)

pub returns-clause-wwvb_and_jjy : goal.returns-clause-wwvb_and_jjy
unfolding place_at
returns-clause-wwvb_and_jjy c = λ is. omega (arith, (is.encoded 0 (omega arith)).1 Jjy refl, jjy_last)

pub returns-clause-before : goal.returns-clause-before
returns-clause-before c = walkable false (century_minutes - 541) refl 12 0 century_minutes (omega arith) (omega arith) (early (window_of 12 0 century_minutes).stations (century_minutes - 541) (omega arith))
