-- What leap unions are made for.
use Rattle.std.specs.Prelude.{ℕ}
use Rattle.signal_base.specs.declared.station.Station.{Station}

-- a station, and windows of so many seconds
pub record Scope : Type 0 where
  pub station : Station
  pub seconds : ℕ
