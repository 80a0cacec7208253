-- Rows of costs by sets.
use Rattle.std.specs.Prelude.{ℕ, ◌≡◌, ◌*◌, ◌%◌, ◌<◌, ◌≤◌, ◌==◌, if◌then◌else◌, List, [], ◌∷◌, length, map, slice_index}
use Rattle.signal_base.specs.declared.station.Station.{Station}
use Rattle.signal_base.specs.declared.limits.TheConstants.{MOST_RECEIVERS, MOST_SECONDS}
use Rattle.definitions.specs.codes.Vocabulary.{unscored}
use Rattle.definitions.specs.heard.Costs.{set_cost}
use Rattle.symbol_cost.specs.Grid.{Grid, cost_at}
use Rattle.symbol_cost.specs.declared.limits.TheConstants.{RECEIVER_COST}
use Rattle.slot_columns.specs.Parts.{entry}
use Rattle.slot_columns.specs.declared.limits.TheConstants.{SETS}

-- where a set stands in a row: at its own number, of which the five lowest bits are symbols. A second that isn't scored
-- costs nothing, as the set without symbols
abbrev pub index_of : ℕ → ℕ
index_of set = if set == unscored then 0 else set % SETS

-- what a set costs in slot k of a grid
abbrev pub cost_in_slot : Grid → ℕ → ℕ → ℕ
cost_in_slot grid set k = set_cost grid.station (cost_at grid.rows k) set

-- a window's grid: it has no more receivers and slots than a bank may have, and no set costs more in a slot than the
-- receivers can make of it
pub record IsBounded (grid : Grid) : Type 0 where
  pub few : grid.receivers ≤ MOST_RECEIVERS
  pub short : length grid.rows ≤ MOST_SECONDS
  pub small : (k set : ℕ) → k < length grid.rows → cost_in_slot grid set k ≤ grid.receivers * RECEIVER_COST

-- the row has what each set costs in slot k
pub record IsRow (row : List ℕ) (grid : Grid) (k : ℕ) : Type 0 where
  pub each : (set : ℕ) → set < SETS → slice_index row set ≡ cost_in_slot grid set k
  pub small : (set : ℕ) → set < SETS → slice_index row set ≤ MOST_RECEIVERS * RECEIVER_COST

-- each row has what each set costs in its slot
abbrev pub AreRows : List (List ℕ) → Grid → Type 0
AreRows rows grid = (k set : ℕ) → k < length rows → set < SETS → entry rows k set ≡ cost_in_slot grid set k

-- what each of five symbols costs: the set that has it alone
abbrev pub by_symbol : List ℕ → List ℕ
by_symbol row =
    slice_index row 1 ∷ slice_index row 2 ∷ slice_index row 4 ∷ slice_index row 8 ∷ slice_index row 16 ∷ []

-- the grid that rows tell of
abbrev pub grid_of : Station → ℕ → List (List ℕ) → Grid
grid_of station receivers rows = record { station = station; receivers = receivers; rows = map by_symbol rows }

-- rows of a grid that they tell of themselves
pub record AreSlotRows (station : Station) (receivers : ℕ) (rows : List (List ℕ)) : Type 0 where
  pub bounded : IsBounded (grid_of station receivers rows)
  pub each : AreRows rows (grid_of station receivers rows)
