-- The years of the century's last day and of the day behind it.
use Rattle.std.proofs.Common.{◌≡◌, ◌∙◌, ◌-◌, ℕ, Bool, false, nat_lt, if◌then◌else◌, map, Some, None, ap}
use Rattle.std.specs.List.{range_with_len}
use Rattle.signal_base.specs.declared.station.Station.TheVariants.{Jjy}
use Rattle.definitions.specs.codes.Allowed.{allowed, encoded_year}
use Rattle.definitions.specs.time.Calendar.{century_minutes}
use Rattle.definitions.proofs.LastDay.{as_in_winter, year_behind_it, year_of_the_last}
use Rattle.definitions.proofs.examples.calendar.last_minutes.Goals as goal

pub returns-clause-dcf77 : goal.returns-clause-dcf77
returns-clause-dcf77 c = as_in_winter (century_minutes - 61) 120 60 ∙ year_of_the_last

pub returns-clause-dcf77_after : goal.returns-clause-dcf77_after
returns-clause-dcf77_after c = as_in_winter (century_minutes - 60) 120 60 ∙ year_behind_it

pub returns-clause-msf : goal.returns-clause-msf
returns-clause-msf c = as_in_winter (century_minutes - 1) 60 0 ∙ year_of_the_last

pub returns-clause-msf_after : goal.returns-clause-msf_after
returns-clause-msf_after c = as_in_winter century_minutes 60 0 ∙ year_behind_it

pub returns-clause-wwvb : goal.returns-clause-wwvb
returns-clause-wwvb c = year_of_the_last

pub returns-clause-wwvb_after : goal.returns-clause-wwvb_after
returns-clause-wwvb_after c = year_behind_it

pub returns-clause-jjy : goal.returns-clause-jjy
returns-clause-jjy c = year_of_the_last

pub returns-clause-jjy_after : goal.returns-clause-jjy_after
returns-clause-jjy_after c = year_behind_it

late : nat_lt (encoded_year Jjy (century_minutes - 540)) 2100 ≡ false
late = ap (λ (year : ℕ). nat_lt year 2100) year_behind_it

pub returns-clause-none : goal.returns-clause-none
returns-clause-none c =
    ap (λ (b : Bool). if b then Some (map (λ s. allowed Jjy false (century_minutes - 540, s)) (range_with_len 0 61)) else None) late
