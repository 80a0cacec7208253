-- The order of stations.
use Rattle.std.specs.Prelude.{◌-◌, ◌<◌, ◌≤◌, List, length, slice_index_or}
use Rattle.signal_base.specs.declared.station.Station.{Station}
use Rattle.signal_base.specs.Number.{number_of}

-- none of these comes behind the station, as long as they are in their order
abbrev pub ComesNext : List Station → Station → Type 0
ComesNext stations station =
    (d : Station) → 0 < length stations → number_of (slice_index_or stations (length stations - 1) d) ≤ number_of station
