-- What the times of day cost all stations of a window together at the least.
use Rattle.std.specs.Prelude.{ℕ, ◌≡◌, ◌+◌, ◌-◌, ◌*◌, ◌%◌, ◌<◌, ◌≤◌, ◌==◌, nat_lt, if◌then◌else◌, min, List, [], ◌∷◌, length, slice_index}
use Rattle.definitions.specs.time.Calendar.{minutes_per_day, minutes_per_hour}
use Rattle.minute_parts.specs.Walks.{later_minutes}
use Rattle.slot_columns.specs.Layered.{AreGroups}
use Rattle.slot_columns.specs.declared.limits.TheConstants.{SECONDS_PER_MINUTE}
use Rattle.walk_costs.specs.Apart.{time_cost}
use Rattle.walk_costs.specs.Dates.{minutes_to_call}
use Rattle.walk_costs.specs.Walks.{PricedParts}
use Rattle.field_tables.specs.declared.seasons.Season.{Season}
use Rattle.field_tables.specs.declared.seasons.TheConstants.{BUT_THE_LAST, DAY_HOURS, PIECES, THE_LAST}

-- what they cost in the walks from second p of the minute t, where each station's local time is so far ahead of UTC
unfoldable pub times_together : List PricedParts → List ℕ → ℕ → ℕ → ℕ
times_together [] shifts p t = 0
times_together (w ∷ ws) [] p t = 0
times_together (w ∷ ws) (shift ∷ shifts) p t = time_cost w p ((t + shift) % minutes_per_day) + times_together ws shifts p t

-- by how much that of the last station is ahead
abbrev pub last_shift : List ℕ → ℕ
last_shift shifts = slice_index shifts (length shifts - 1)

-- the first minute of a piece of the UTC day, and that behind its last, where walks go on for so many minutes after their first one
abbrev pub piece_from : ℕ → ℕ → ℕ
piece_from later piece = if nat_lt piece DAY_HOURS then piece * minutes_per_hour else (if piece == THE_LAST then minutes_per_day - later else 0)

abbrev pub piece_to : ℕ → ℕ → ℕ
piece_to later piece =
    if nat_lt piece DAY_HOURS then min (minutes_per_day - later) ((piece + 1) * minutes_per_hour)
    else (if piece == BUT_THE_LAST then minutes_per_day - later else minutes_per_day)

-- no walk that begins in these minutes costs less than this by how many minutes later a call sign comes, where so much is the cost of
-- each minute of the day
abbrev pub IsRowOf : List ℕ → ℕ → ℕ → ℕ → List ℕ → Type 0
IsRowOf times shift later piece row = (v : ℕ) → piece_from later piece ≤ v → v < piece_to later piece
    → slice_index row (minutes_to_call ((v + shift) % minutes_per_day)) ≤ slice_index times v

-- and by what the times of day cost all stations together
abbrev pub IsTimeRow : List PricedParts → List ℕ → ℕ → ℕ → ℕ → List ℕ → Type 0
IsTimeRow stations shifts seconds p piece row = (v : ℕ) → piece_from (later_minutes seconds p) piece ≤ v → v < piece_to (later_minutes seconds p) piece
    → slice_index row (minutes_to_call ((v + last_shift shifts) % minutes_per_day)) ≤ times_together stations shifts p v

-- a season of the stations, in windows of so many seconds
pub record IsSeason (stations : List PricedParts) (seconds : ℕ) (season : Season) : Type 0 where
  pub shifts : length season.shifts.items ≡ length stations
  pub rows : AreGroups [] (IsTimeRow stations season.shifts.items seconds) PIECES season.costs.items SECONDS_PER_MINUTE

-- the minutes from `from` up to, and without, `to` lie in a piece of a UTC day
abbrev pub LieIn : ℕ → ℕ → ℕ → ℕ → Type 0
LieIn later piece from to = (t : ℕ) → from ≤ t → t < to → (piece_from later piece ≤ t % minutes_per_day) × (t % minutes_per_day < piece_to later piece)
