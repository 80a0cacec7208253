-- What parts are made for.
use Rattle.std.specs.Prelude.{ℕ, List, [], ◌∷◌, map, if◌then◌else◌}
use Rattle.signal_base.specs.declared.station.Station.{Station}
use Rattle.signal_base.specs.declared.station.Stations.{Stations}
use Rattle.definitions.specs.codes.Allowed.{has_station, stations_of}
use Rattle.leap_unions.specs.Scope.{Scope}

-- a station in windows of so many seconds
abbrev pub scope_of : ℕ → Station → Scope
scope_of seconds station = record { station = station; seconds = seconds }

-- each of these stations, in their order
abbrev pub scopes_of : Stations → ℕ → List Scope
scopes_of stations seconds = map (scope_of seconds) (stations_of stations)

-- one station, if it is one of these
abbrev pub scope_if : Stations → ℕ → Station → List Scope
scope_if stations seconds station = if has_station stations station then scope_of seconds station ∷ [] else []
