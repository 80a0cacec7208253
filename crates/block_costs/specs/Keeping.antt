-- Ranges of minutes whose unions are kept, and what these cost.
use Rattle.std.specs.Prelude.{ℕ, ◌≡◌, ◌<◌, ◌≤◌, false, List, length, slice_index_or}
use Rattle.slot_columns.specs.Layered.{LayerSums, layer_cost, part_at}
use Rattle.slot_columns.specs.Parts.{most_cost}
use Rattle.slot_columns.specs.declared.limits.TheConstants.{SECONDS_PER_MINUTE}
use Rattle.minute_parts.specs.Layers.{AreLayers}
use Rattle.minute_parts.specs.Walks.{later_minutes}
use Rattle.walk_costs.specs.Walks.{PricedParts}
use Rattle.block_costs.specs.declared.kept.Range.{Range}
use Rattle.block_costs.specs.Blocks.{AreUnionsOfWalks, unions_cost}

-- the range of a number
abbrev pub no_range : Range
no_range = record { lo = 0; hi = 0 }

abbrev pub range_at : List Range → ℕ → Range
range_at ranges i = slice_index_or ranges i no_range

-- layers that hold as far as any walk reaches from the range
abbrev pub AreKeptLayers : PricedParts → Range → List ℕ → List ℕ → Type 0
AreKeptLayers w range first rest =
    AreLayers w.grid.station false range.lo range.hi (later_minutes (length w.grid.rows) 59) (record { first = first; rest = rest })

-- those of some ranges
pub record AreGathered (w : PricedParts) (ranges : List Range) (firsts rests : List (List ℕ)) : Type 0 where
  pub as_many_firsts : length firsts ≡ length ranges
  pub as_many_rests : length rests ≡ length ranges
  pub each : (i : ℕ) → i < length ranges → AreKeptLayers w (range_at ranges i) (part_at firsts i) (part_at rests i)

-- what the unions cost over the walks from second p of the range
pub record IsKeptCost (w : PricedParts) (range : Range) (p cost : ℕ) : Type 0 where
  pub cost_is : (sets : ℕ → ℕ) → AreUnionsOfWalks w.grid.station false p range.lo range.hi (length w.grid.rows) sets → cost ≡ unions_cost w.grid sets
  pub bound : cost ≤ most_cost w.grid

-- a table has that of each range
pub record AreKept (w : PricedParts) (ranges : List Range) (costs : LayerSums) : Type 0 where
  pub count : costs.pairs ≡ length ranges
  pub each : (i p : ℕ) → i < length ranges → p < SECONDS_PER_MINUTE → IsKeptCost w (range_at ranges i) p (layer_cost costs i p)
