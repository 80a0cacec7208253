-- What a window's stations cost by sums that were made once, as contracts see it.
use Rattle.std.specs.Prelude.{ℕ, ◌≡◌, ◌<◌, ◌≤◌, ◌↔◌, List, [], ◌∷◌, length, map}
use Rattle.std.specs.List.{All}
use Rattle.signal_base.specs.declared.window.Window.{Window}
use Rattle.definitions.specs.codes.Allowed.{CanBeEncoded}
use Rattle.definitions.specs.heard.Costs.{Costs}
use Rattle.definitions.specs.sequences.Windows.{IsWindow}
use Rattle.symbol_cost.specs.Grid.{Grid, HasCosts, cost_at}
use Rattle.minute_parts.specs.Parts.{IsPartTable}
use Rattle.plain_costs.specs.Agreement.{AgreeOn}
use Rattle.plain_costs.specs.Grids.{AreGrids, grid_costs}
use Rattle.walk_costs.specs.Walks.{PricedParts}

-- a window, the stations that are heard in it, and the first minute that not all of them can encode
pub record Sums : Type 0 where
  pub window : Window
  pub stations : List PricedParts
  pub end : ℕ

abbrev pub grids_of : List PricedParts → List Grid
grids_of stations = map (λ w. w.grid) stations

-- what the symbols cost
abbrev pub costs_by : Sums → Costs
costs_by sums = grid_costs (grids_of sums.stations)

-- the station's parts and costs are those of this grid
pub record IsOf (grid : Grid) (w : PricedParts) : Type 0 where
  pub station : w.parts.station ≡ grid.station
  pub table : IsPartTable w.parts
  pub costs : HasCosts w.grid grid.station (length grid.rows) (cost_at grid.rows)
  pub receivers : w.grid.receivers ≡ grid.receivers

-- one station for each grid, in their order
abbrev pub AreOf : List Grid → List PricedParts → Type 0
AreOf [] [] = Unit {0}
AreOf (g ∷ gs) (w ∷ ws) = IsOf g w × AreOf gs ws
AreOf gs ws = ⊥

-- all these stations can encode the minutes before this one, and no others
abbrev pub IsEndOf : List PricedParts → ℕ → Type 0
IsEndOf stations end = (t : ℕ) → t < end ↔ All (λ w. t < w.parts.end) stations

-- The stations are those of the window, each with its own parts, and their costs are those of its slots.
pub record AreSums (sums : Sums) : Type 0 where
  pub window : IsWindow sums.window
  pub grids : AreGrids sums.window (grids_of sums.stations)
  pub parts : All (λ w. w.parts.station ≡ w.grid.station) sums.stations
  pub tables : All (λ w. IsPartTable w.parts) sums.stations
  pub end : (t : ℕ) → t < sums.end ↔ CanBeEncoded sums.window.stations t
  pub within : All (λ w. sums.end ≤ w.parts.end) sums.stations

-- Sums of a window by whose costs its sequences cost what they cost by its grids.
pub record AreTables (window : Window) (grids : List Grid) (sums : Sums) : Type 0 where
  pub is_window : IsWindow window
  pub are_grids : AreGrids window grids
  pub same : sums.window ≡ window
  pub agree : AgreeOn window (costs_by sums) (grid_costs grids)
