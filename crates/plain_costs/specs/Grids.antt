-- The grids of the stations of a window, and what symbols cost by them.
use Rattle.std.specs.Prelude.{◌≡◌, ◌==◌, ◌≤◌, List, length, map, sum_by, Option}
use Rattle.std.specs.List.{All, find}
use Rattle.std.specs.Option.{option_map_or}
use Rattle.signal_base.specs.declared.limits.TheConstants.{MOST_RECEIVERS}
use Rattle.signal_base.specs.declared.station.Station.{Station}
use Rattle.signal_base.specs.declared.window.Window.{Window}
use Rattle.signal_base.specs.Number.{number_of}
use Rattle.definitions.specs.codes.Allowed.{stations_of}
use Rattle.definitions.specs.heard.Costs.{Costs}
use Rattle.symbol_cost.specs.Grid.{Grid, HasCosts, cost_at}

-- the grid of a station: the first of it, if there is one
abbrev pub grid_of : List Grid → Station → Option Grid
grid_of grids station = find (λ g. number_of g.station == number_of station) grids

-- what the symbols of a station cost by its grid, and nothing where it has none
abbrev pub grid_costs : List Grid → Costs
grid_costs grids station = option_map_or (λ g. cost_at g.rows) (grid_of grids station) (λ k x. 0)

-- One grid for each station of the window, in their order, each of the window's slots; they are made from no more
-- receivers together than a bank has.
pub record AreGrids (window : Window) (grids : List Grid) : Type 0 where
  pub stations : map (λ g. g.station) grids ≡ stations_of window.stations
  pub slots : All (λ g. length g.rows ≡ window.seconds) grids
  pub few : sum_by (λ g. g.receivers) grids ≤ MOST_RECEIVERS

-- each grid has these costs of its station
abbrev pub HaveCosts : Window → List Grid → Costs → Type 0
HaveCosts window grids costs = All (λ g. HasCosts g g.station window.seconds (costs g.station)) grids
