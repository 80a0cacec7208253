-- The hours of the local day, as they are kept.
use Rattle.std.specs.Prelude.{ℕ, ◌≡◌, ◌+◌, ◌*◌, ◌<◌, ◌≤◌, Bool, true, nat_lt, if◌then◌else◌, List, length, slice_index}
use Rattle.symbol_cost.specs.Grid.{Grid, cost_at}
use Rattle.slot_columns.specs.Layered.{part_at}
use Rattle.slot_columns.specs.Parts.{layered_cost, most_cost}
use Rattle.slot_columns.specs.declared.limits.TheConstants.{SECONDS_PER_MINUTE}
use Rattle.minute_parts.specs.HourLayers.{AreTimeLayers}
use Rattle.minute_parts.specs.Overlay.{is_given_up}
use Rattle.minute_parts.specs.Walks.{later_minutes}
use Rattle.walk_costs.specs.Walks.{PricedParts}
use Rattle.block_costs.specs.declared.local_hours.TheConstants.{DAY_HOURS}
use Rattle.minute_parts.specs.declared.hour_layers.TheConstants.{HOUR_MINUTES}
use Rattle.block_costs.specs.Blocks.{AreUnionsOfWalks, unions_cost}

-- what the time of day tells in hour h of the local day, which begins so many minutes after its whole hours, and in the minutes
-- that come after it as far as any walk reaches; of the seconds that the call sign takes the same as in the minutes of the call
pub record IsHourLayer (w : PricedParts) (begin h : ℕ) (call first rest : List ℕ) : Type 0 where
  pub layers : AreTimeLayers w.parts.times (60 * h + begin) (later_minutes (length w.grid.rows) 59) (record { first = first; rest = rest })
  pub at_call : (s : ℕ) → is_given_up w.grid.station s ≡ true → (slice_index first s ≡ slice_index call s) × (slice_index rest s ≡ slice_index call s)

-- the first hours
pub record AreHourLayers (w : PricedParts) (begin : ℕ) (call : List ℕ) (firsts rests : List (List ℕ)) : Type 0 where
  pub as_many : length firsts ≡ length rests
  pub each : (h : ℕ) → h < length firsts → IsHourLayer w begin h call (part_at firsts h) (part_at rests h)

-- what the layers of one of these hours cost in walks from second p, and 0 past them
abbrev pub hour_at : Grid → List (List ℕ) → List (List ℕ) → ℕ → ℕ → ℕ
hour_at grid firsts rests p h =
    if nat_lt h (length firsts)
    then layered_cost grid.station (cost_at grid.rows) (length grid.rows) p (part_at firsts h) (part_at rests h)
    else 0

-- a row of hours for each second in which a walk may begin, one behind the other
pub record AreHourCosts (grid : Grid) (firsts rests : List (List ℕ)) (costs : List ℕ) : Type 0 where
  pub count : length costs ≡ SECONDS_PER_MINUTE * DAY_HOURS
  pub each : (p h : ℕ) → p < SECONDS_PER_MINUTE → h < DAY_HOURS → slice_index costs (p * DAY_HOURS + h) ≡ hour_at grid firsts rests p h

-- and what that costs
pub record AreHours (w : PricedParts) (begin : ℕ) (call : List ℕ) (firsts rests : List (List ℕ)) (costs : List ℕ) : Type 0 where
  pub layers : AreHourLayers w begin call firsts rests
  pub priced : AreHourCosts w.grid firsts rests costs

-- what the unions of the hour cost that begins in the minute lo, in walks from second p
pub record IsHourCost (w : PricedParts) (announced : Bool) (p lo cost : ℕ) : Type 0 where
  pub cost_is : (sets : ℕ → ℕ) → AreUnionsOfWalks w.grid.station announced p lo (lo + HOUR_MINUTES) (length w.grid.rows) sets → cost ≡ unions_cost w.grid sets
  pub bound : cost ≤ most_cost w.grid
