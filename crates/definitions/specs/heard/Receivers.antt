-- What the receivers of a bank heard.
use Rattle.std.specs.Prelude.{◌==◌, List, [], ◌∷◌, map, filter}
use Rattle.signal_base.specs.declared.station.Station.{Station}
use Rattle.signal_base.specs.declared.tuning.Tuning.{Tuning}
use Rattle.signal_base.specs.Number.{number_of}
use Rattle.definitions.specs.heard.Logs.{Records}

-- what a receiver heard, and how it is tuned
pub record Reception : Type 0 where
  pub tuning : Tuning
  pub log : Records

-- of some receivers, from their tunings and logs
abbrev pub receptions : List Tuning → List Records → List Reception
receptions [] logs = []
receptions (t ∷ ts) [] = []
receptions (t ∷ ts) (l ∷ ls) = record { tuning = t; log = l } ∷ receptions ts ls

-- a receiver of a bank: the station that it listens to, and what it heard
pub record Receiver : Type 0 where
  pub station : Station
  pub heard : Reception

-- what those heard that listen to a station
abbrev pub heard_of : Station → List Receiver → List Reception
heard_of station bank = map (λ r. r.heard) (filter (λ r. number_of r.station == number_of station) bank)
