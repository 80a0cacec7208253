-- The set of one second, as a telegram has it.
use Rattle.std.specs.Prelude.{ℕ, ◌≡◌, ◌≢◌, Bool, true, false, nat_lt, if◌then◌else◌, Option, Some, None}
use Rattle.signal_base.specs.declared.station.Station.{Station}
use Rattle.signal_base.specs.declared.station.Stations.{Stations}
use Rattle.definitions.specs.codes.Allowed.{allowed, encoded_year, has_station}

-- what a second may carry, or none where the year of its minute isn't encoded
abbrev pub encoded_set : Station → Bool → ℕ × ℕ → Option ℕ
encoded_set station announced place =
    if nat_lt (encoded_year station place.0) 2100 then Some (allowed station announced place) else None

-- a station may carry another set in the one second than it may, without an announcement, in the other
abbrev pub StationDiffers : Stations → Bool → ℕ × ℕ → ℕ × ℕ → Station → Type 0
StationDiffers stations announced place twin station =
    (has_station stations station ≡ true) × (allowed station announced place ≢ allowed station false twin)

-- some station may
abbrev pub SetsDiffer : Stations → Bool → ℕ × ℕ → ℕ × ℕ → Type 0
SetsDiffer stations announced place twin =
    (station : Station) × StationDiffers stations announced place twin station
