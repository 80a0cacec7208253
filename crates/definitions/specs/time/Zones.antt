-- Civil time: what a zone's clocks show.
use Rattle.std.specs.Prelude.{ℕ, ◌+◌, nat_lt, if◌then◌else◌, Option, Some, None}
use Rattle.definitions.specs.declared.fields.Fields.{Fields}
use Rattle.definitions.specs.declared.zone.Zone.{Zone}
use Rattle.definitions.specs.declared.zone.Zone.TheVariants.{Utc, CentralEurope, Uk, Japan}
use Rattle.definitions.specs.time.Calendar.{utc_fields}
use Rattle.definitions.specs.time.Summer.{is_eu_summer}

-- by how many minutes a zone is ahead of UTC in the minute t
abbrev pub zone_shift : Zone → ℕ → ℕ
zone_shift Utc t = 0
zone_shift CentralEurope t = if is_eu_summer t then 120 else 60
zone_shift Uk t = if is_eu_summer t then 60 else 0
zone_shift Japan t = 540

-- the fields in a zone's time
abbrev pub zone_fields : Zone → ℕ → Fields
zone_fields zone t = utc_fields (t + zone_shift zone t)

-- the same, and none in the year 2100
abbrev pub local_fields : Zone → ℕ → Option Fields
local_fields zone t = if nat_lt (zone_fields zone t).year 2100 then Some (zone_fields zone t) else None
