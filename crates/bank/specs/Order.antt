-- Receivers with their logs in the order of stations.
use Rattle.std.specs.Prelude.{◌≡◌, ◌==◌, List, [], ◌∷◌, filter, map}
use Rattle.std.specs.List.{flat_map, zip}
use Rattle.signal_base.specs.declared.station.Station.{Station}
use Rattle.signal_base.specs.declared.station.Station.TheVariants.{Dcf77, Msf, Wwvb, Jjy}
use Rattle.signal_base.specs.Number.{number_of}
use Rattle.definitions.specs.heard.Logs.{Records}
use Rattle.bank_config.specs.Configuration.{PlainConfig, PlainReceiver}

-- those of a station
abbrev pub of_station : {A : Type 0} → (A → Station) → Station → List A → List A
of_station station s xs = filter (λ x. number_of (station x) == number_of s) xs

-- those of each station behind those of the stations before it, and among themselves as before
abbrev pub in_station_order : {A : Type 0} → (A → Station) → List A → List A
in_station_order station xs = flat_map (λ s. of_station station s xs) (Dcf77 ∷ Msf ∷ Wwvb ∷ Jjy ∷ [])

-- the receivers of a configuration, each with its log, in this order
abbrev pub entries_in_order : PlainConfig → List Records → List (PlainReceiver × Records)
entries_in_order config logs = in_station_order (λ e. e.0.station) (zip config.receivers logs)

-- the configuration and the logs with their receivers in this order
pub record IsInOrder (config : PlainConfig) (logs : List Records) (ordered : PlainConfig) (ordered_logs : List Records) : Type 0 where
  pub station_is : ordered.station ≡ config.station
  pub ceiling_is : ordered.ceiling ≡ config.ceiling
  pub costs_are : ordered.costs ≡ config.costs
  pub receivers_are : ordered.receivers ≡ map (λ e. e.0) (entries_in_order config logs)
  pub logs_are : ordered_logs ≡ map (λ e. e.1) (entries_in_order config logs)
