-- What is found by tables is found by their window and grids.
use Rattle.std.proofs.Common.{◌≡◌, ℕ, List, Option, subst}
use Rattle.signal_base.specs.declared.window.Window.{Window}
use Rattle.definitions.specs.answers.FirstTwo.{AreLeastTwo, IsWindowKey}
use Rattle.symbol_cost.specs.Grid.{Grid}
use Rattle.field_tables.specs.Grids.{grid_costs}
use Rattle.field_tables.specs.Scored.{Scored, costs_of}
use Rattle.workers.specs.Steps.{Step}
use Rattle.kept_steps.specs.Kept.{IsFound}

module _ (window : Window) (grids : List Grid) (tables : Scored) (ceiling : ℕ) (same_window : tables.window ≡ window) (same_grids : tables.grids ≡ grids) where
  pub keys_by : (first second : Option ℕ) → AreLeastTwo (IsWindowKey tables.window (costs_of tables) ceiling) first second
      → AreLeastTwo (IsWindowKey window (grid_costs grids) ceiling) first second
  keys_by first second found =
      subst (λ (g : List Grid). AreLeastTwo (IsWindowKey window (grid_costs g) ceiling) first second) same_grids
      (subst (λ (w : Window). AreLeastTwo (IsWindowKey w (costs_of tables) ceiling) first second) same_window found)

  pub lists_by : (workers : ℕ) (second : Option ℕ) (lists : List (List Step)) → IsFound (costs_of tables) tables.window ceiling workers second lists
      → IsFound (grid_costs grids) window ceiling workers second lists
  lists_by workers second lists found =
      subst (λ (g : List Grid). IsFound (grid_costs g) window ceiling workers second lists) same_grids
      (subst (λ (w : Window). IsFound (costs_of tables) w ceiling workers second lists) same_window found)
