-- The receivers of a bank, from a list of their stations and one of what they heard.
use Rattle.std.specs.Prelude.{List, [], ◌∷◌}
use Rattle.signal_base.specs.declared.station.Station.{Station}
use Rattle.definitions.specs.heard.Receivers.{Reception, Receiver}

-- each listens to the station at its place
abbrev pub receivers : List Station → List Reception → List Receiver
receivers [] heard = []
receivers (s ∷ ss) [] = []
receivers (s ∷ ss) (h ∷ hs) = record { station = s; heard = h } ∷ receivers ss hs
