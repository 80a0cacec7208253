-- Years that end.
use Rattle.std.proofs.Common.{◌≡◌, ◌∙◌, ◌∷◌, ◌-◌, [], ℕ, Bool, true, false, nat_lt, is_some, if◌then◌else◌, Some, None, ap}
use Rattle.definitions.specs.declared.zone.Zone.{Zone}
use Rattle.definitions.specs.declared.zone.Zone.TheVariants.{CentralEurope, Japan, Uk, Utc}
use Rattle.definitions.specs.time.Calendar.{century_minutes}
use Rattle.definitions.specs.time.Zones.{local_fields, zone_fields}
use Rattle.definitions.proofs.LastDay.{as_in_winter, year_behind_it, year_of_the_last}
use Rattle.definitions.proofs.examples.calendar.local_years_end.Goals as goal

-- local time is told of a minute in a year before 2100
told : (zone : Zone) (t year : ℕ) → (zone_fields zone t).year ≡ year
    → is_some (local_fields zone t) ≡ is_some (if nat_lt year 2100 then Some (zone_fields zone t) else None)
told zone t year e = ap (λ (of_t : ℕ). is_some (if nat_lt of_t 2100 then Some (zone_fields zone t) else None)) e

both : (zone : Zone) (last next : ℕ) → (zone_fields zone last).year ≡ 2099 → (zone_fields zone next).year ≡ 2100
    → is_some (local_fields zone last) ∷ is_some (local_fields zone next) ∷ [] ≡ true ∷ false ∷ []
both zone last next a b =
    ap (λ (x : Bool). x ∷ is_some (local_fields zone next) ∷ []) (told zone last 2099 a)
    ∙ ap (λ (x : Bool). true ∷ x ∷ []) (told zone next 2100 b)

pub returns-clause-utc : goal.returns-clause-utc
returns-clause-utc c = both Utc (century_minutes - 1) century_minutes year_of_the_last year_behind_it

pub returns-clause-europe : goal.returns-clause-europe
returns-clause-europe c =
    both CentralEurope (century_minutes - 61) (century_minutes - 60)
    (as_in_winter (century_minutes - 61) 120 60 ∙ year_of_the_last) (as_in_winter (century_minutes - 60) 120 60 ∙ year_behind_it)

pub returns-clause-uk : goal.returns-clause-uk
returns-clause-uk c =
    both Uk (century_minutes - 1) century_minutes
    (as_in_winter (century_minutes - 1) 60 0 ∙ year_of_the_last) (as_in_winter century_minutes 60 0 ∙ year_behind_it)

pub returns-clause-japan : goal.returns-clause-japan
returns-clause-japan c = both Japan (century_minutes - 541) (century_minutes - 540) year_of_the_last year_behind_it
