-- A grid of costs, as contracts see it.
use Rattle.std.specs.Prelude.{ℕ, ◌≡◌, ◌*◌, ◌<◌, ◌≤◌, List, [], length, slice_index, slice_index_or}
use Rattle.signal_base.specs.declared.station.Station.{Station}
use Rattle.signal_base.specs.declared.limits.TheConstants.{MOST_RECEIVERS, MOST_SECONDS}
use Rattle.signal_base.specs.Waveform.{symbol_count}
use Rattle.symbol_cost.specs.declared.limits.TheConstants.{RECEIVER_COST}

-- what each symbol of a station costs in each slot: a row for each slot, made from so many receivers
pub record Grid : Type 0 where
  pub station : Station
  pub receivers : ℕ
  pub rows : List (List ℕ)

-- what symbol x costs in slot k
abbrev pub cost_at : List (List ℕ) → ℕ → ℕ → ℕ
cost_at rows k x = slice_index (slice_index_or rows k []) x

-- the grid has these costs of a station, over n slots
pub record HasCosts (grid : Grid) (station : Station) (n : ℕ) (costs : ℕ → ℕ → ℕ) : Type 0 where
  pub of_station : grid.station ≡ station
  pub slots : length grid.rows ≡ n
  pub each : (k x : ℕ) → k < n → x < symbol_count station → cost_at grid.rows k x ≡ costs k x

-- no cost is above what so many receivers can make of it
abbrev pub AreSmall : ℕ → List (List ℕ) → Type 0
AreSmall receivers rows = (k x : ℕ) → cost_at rows k x ≤ receivers * RECEIVER_COST

-- rows that so many receivers make, of a window
pub record AreOfReceivers (receivers : ℕ) (rows : List (List ℕ)) : Type 0 where
  pub few : receivers ≤ MOST_RECEIVERS
  pub short : length rows ≤ MOST_SECONDS
  pub small : AreSmall receivers rows

-- these are the costs in n slots, each small enough for so many receivers
pub record AreRows (rows : List (List ℕ)) (station : Station) (n receivers : ℕ) (costs : ℕ → ℕ → ℕ) : Type 0 where
  pub slots : length rows ≡ n
  pub each : (k x : ℕ) → k < n → x < symbol_count station → cost_at rows k x ≡ costs k x
  pub small : AreSmall receivers rows
