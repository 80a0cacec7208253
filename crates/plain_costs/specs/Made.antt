-- Grids that tests make.
use Rattle.std.specs.Prelude.{◌≡◌, ◌≤◌, length}
use Rattle.signal_base.specs.declared.station.Station.{Station}
use Rattle.symbol_cost.specs.Grid.{Grid}

-- a grid of a station for a minute
pub record IsGridOf (station : Station) (grid : Grid) : Type 0 where
  pub of_station : grid.station ≡ station
  pub slots : length grid.rows ≡ 60
  pub few : grid.receivers ≤ 2
