-- What the slots of a block may carry, all its sequences together, where each minute of their walks has 60 seconds.
use Rattle.std.specs.Prelude.{ℕ, ◌+◌, ◌/◌, ◌%◌, ◌<◌, Bool, length}
use Rattle.signal_base.specs.declared.station.Station.{Station}
use Rattle.definitions.specs.heard.Costs.{set_cost, sum_below}
use Rattle.symbol_cost.specs.Grid.{Grid, cost_at}
use Rattle.slot_columns.specs.declared.limits.TheConstants.{SECONDS_PER_MINUTE}
use Rattle.minute_parts.specs.Unions.{IsUnionOver}

-- the walks begin with second p of the minutes from lo up to, and without, hi: slot k of n is second (p + k) mod 60 of the
-- minutes that come (p + k) div 60 later, and has their union
abbrev pub AreUnionsOfWalks : Station → Bool → ℕ → ℕ → ℕ → ℕ → (ℕ → ℕ) → Type 0
AreUnionsOfWalks station announced p lo hi n sets =
    (k : ℕ) → k < n
    → IsUnionOver station announced (lo + (p + k) / SECONDS_PER_MINUTE) (hi + (p + k) / SECONDS_PER_MINUTE) ((p + k) % SECONDS_PER_MINUTE) (sets k)

-- what such sets cost in the slots of a grid
abbrev pub unions_cost : Grid → (ℕ → ℕ) → ℕ
unions_cost grid sets = sum_below (length grid.rows) (λ k. set_cost grid.station (cost_at grid.rows k) (sets k))
