-- What the time of day costs in walks that go over a change of the encoded local time.
use Rattle.std.specs.Prelude.{ℕ, ◌≡◌, ◌+◌, ◌-◌, ◌/◌, ◌%◌, ◌<◌, ◌≤◌, nat_lt, false, if◌then◌else◌, List, [], length, slice_index, slice_index_or}
use Rattle.definitions.specs.time.Calendar.{minutes_per_day}
use Rattle.definitions.specs.heard.Costs.{set_cost, sum_below}
use Rattle.symbol_cost.specs.Grid.{Grid, cost_at}
use Rattle.minute_parts.specs.Overlay.{is_given_up}
use Rattle.minute_parts.specs.Parts.{PartTable}
use Rattle.minute_parts.specs.Walks.{later_minutes}
use Rattle.slot_columns.specs.declared.limits.TheConstants.{SECONDS_PER_MINUTE}
use Rattle.walk_costs.specs.declared.change.Change.{Change}

-- so many minutes before a minute of the day
abbrev pub before : ℕ → ℕ → ℕ
before u b = (minutes_per_day + u - b) % minutes_per_day

-- the minute of the local day that walk minute m encodes, where the first b minutes count from u on and the later ones from v on
abbrev pub time_over : ℕ → ℕ → ℕ → ℕ → ℕ
time_over u v b m = ((if nat_lt m b then u else v) + m) % minutes_per_day

-- what the time of day costs in slot k of such a walk
abbrev pub cost_in_slot_over : Grid → List (List ℕ) → ℕ → ℕ → ℕ → ℕ → ℕ → ℕ
cost_in_slot_over grid times u v b p k =
    let place = p + k in
    set_cost grid.station (cost_at grid.rows k)
    (slice_index (slice_index_or times (time_over u v b (place / SECONDS_PER_MINUTE)) []) (place % SECONDS_PER_MINUTE))

-- and in all slots
abbrev pub cost_over : Grid → List (List ℕ) → ℕ → ℕ → ℕ → ℕ → ℕ
cost_over grid times u v b p = sum_below (length grid.rows) (cost_in_slot_over grid times u v b p)

-- what the walks from second p cost by how many of their minutes come before a change between two minutes of the day
abbrev pub AreCostsOver : Grid → List (List ℕ) → ℕ → ℕ → ℕ → List ℕ → Type 0
AreCostsOver grid times from to p costs =
    (b : ℕ) → b ≤ later_minutes (length grid.rows) p → slice_index costs b ≡ cost_over grid times (before from b) (before to b) b p

-- a change at a station that sends no call sign
pub record IsChange (parts : PartTable) (grid : Grid) (change : Change) : Type 0 where
  pub keeps : (s : ℕ) → is_given_up grid.station s ≡ false
  pub count : length change.costs.items ≡ SECONDS_PER_MINUTE
  pub each : (p : ℕ) → p < SECONDS_PER_MINUTE → AreCostsOver grid parts.times change.from change.to p (slice_index_or change.costs.items p [])
