-- Tables, as contracts see them.
use Rattle.std.specs.Prelude.{List}
use Rattle.signal_base.specs.declared.window.Window.{Window}
use Rattle.definitions.specs.heard.Costs.{Costs}
use Rattle.symbol_cost.specs.Grid.{Grid}
use Rattle.field_tables.specs.Grids.{grid_costs}

-- a window, and the grids by which its stations' symbols are scored
pub record Scored : Type 0 where
  pub window : Window
  pub grids : List Grid

-- what the symbols cost
abbrev pub costs_of : Scored → Costs
costs_of scored = grid_costs scored.grids
