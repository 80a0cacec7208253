-- What the search of a window is handed, and what it finds.
use Rattle.std.proofs.Common.{◌≡◌, ℕ, List, Option, IsPermutation, sym, subst}
use Rattle.signal_base.specs.declared.window.Window.{Window}
use Rattle.definitions.specs.declared.block.Block.{Block}
use Rattle.definitions.specs.answers.Blocks.{items}
use Rattle.definitions.specs.answers.FirstTwo.{AreLeastTwo, IsWindowKey}
use Rattle.symbol_cost.specs.Grid.{Grid}
use Rattle.field_tables.specs.Grids.{grid_costs}
use Rattle.field_tables.specs.Scored.{Scored, costs_of}
use Rattle.race_words.specs.declared.view.View.{View}
use Rattle.workers.specs.Recorded.{HaveRecorded}
use Rattle.workers.specs.Searches.{AreItemsOf}
use Rattle.workers.specs.Steps.{Step}

-- a list that is in another order than the items is one of them still
pub still_items : (window : Window) (tables : Scored) (ws xs zs : List Block) → tables.window ≡ window → ws ≡ items window → xs ≡ ws → IsPermutation xs zs
    → AreItemsOf tables.window zs
still_items window tables ws xs zs same are copied moved =
    subst (λ (w : Window). AreItemsOf w zs) (sym same)
    (subst (λ (list : List Block). IsPermutation list zs) are
    (subst (λ (list : List Block). IsPermutation list zs) copied moved))

-- what is found by tables is found by their window and grids
pub found_by : (window : Window) (grids : List Grid) (tables : Scored) (ceiling : ℕ) (first second : Option ℕ) → tables.window ≡ window → tables.grids ≡ grids
    → AreLeastTwo (IsWindowKey tables.window (costs_of tables) ceiling) first second → AreLeastTwo (IsWindowKey window (grid_costs grids) ceiling) first second
found_by window grids tables ceiling first second same_window same_grids found =
    subst (λ (g : List Grid). AreLeastTwo (IsWindowKey window (grid_costs g) ceiling) first second) same_grids
    (subst (λ (w : Window). AreLeastTwo (IsWindowKey w (costs_of tables) ceiling) first second) same_window found)

-- and the steps are those of a search of the window's items by the grids' costs
pub recorded_by : {P : Type 0} (told : P → Step → P → Type 0) (parts joins : P → P → P → Type 0) (window : Window) (grids : List Grid) (tables : Scored) (ceiling : ℕ) (items : List Block) (workers : ℕ)
    (v : View) (p q : P) → tables.window ≡ window → tables.grids ≡ grids → AreItemsOf tables.window items
    → HaveRecorded told parts joins (costs_of tables) tables.window ceiling items workers v p q
    → AreItemsOf window items × HaveRecorded told parts joins (grid_costs grids) window ceiling items workers v p q
recorded_by told parts joins window grids tables ceiling items workers v p q same_window same_grids are recorded = (
  subst (λ (w : Window). AreItemsOf w items) same_window are,
  subst (λ (g : List Grid). HaveRecorded told parts joins (grid_costs g) window ceiling items workers v p q) same_grids
      (subst (λ (w : Window). HaveRecorded told parts joins (costs_of tables) w ceiling items workers v p q) same_window recorded),
)
