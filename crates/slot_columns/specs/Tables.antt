-- The tables of a window's slots: what sets cost in walk minute 0, and in all later minutes together.
use Rattle.std.specs.Prelude.{ℕ, ◌≡◌, ◌+◌, ◌*◌, ◌-◌, ◌/◌, ◌%◌, ◌<◌, ◌&&◌, nat_le, nat_lt, min, if◌then◌else◌, List, length, slice_index}
use Rattle.definitions.specs.heard.Costs.{sum_below}
use Rattle.symbol_cost.specs.Grid.{Grid}
use Rattle.slot_columns.specs.Parts.{entry}
use Rattle.slot_columns.specs.Rows.{IsBounded, cost_in_slot, index_of}
use Rattle.slot_columns.specs.declared.limits.TheConstants.{COLUMNS, LATER_MINUTES, SECONDS_PER_MINUTE, SETS}
use Rattle.slot_columns.specs.declared.split.TheConstants.{SPLITS}

-- what a set costs in the slot at place i of a walk that begins in second p: second i mod 60 of walk minute i div 60.
-- Where there is no slot it costs nothing
abbrev pub at_place : Grid → ℕ → ℕ → ℕ → ℕ
at_place grid p set i = if nat_le p i && nat_lt (i - p) (length grid.rows) then cost_in_slot grid set (i - p) else 0

-- what it costs in second s of the walk minutes before minute b
abbrev pub in_front : Grid → ℕ → ℕ → ℕ → ℕ → ℕ
in_front grid p s set b = sum_below b (λ m. at_place grid p set (SECONDS_PER_MINUTE * m + s))

-- what it costs there in all minutes, and from minute b on
abbrev pub in_all : Grid → ℕ → ℕ → ℕ → ℕ
in_all grid p s set = in_front grid p s set SPLITS

abbrev pub behind : Grid → ℕ → ℕ → ℕ → ℕ → ℕ
behind grid p s set b = sum_below (SPLITS - b) (λ m. at_place grid p set (SECONDS_PER_MINUTE * (b + m) + s))

-- the lesser of what two sets cost in second s of the minutes before minute b, and that of what they cost there from it on
abbrev pub lesser_in_change : Grid → ℕ → ℕ → ℕ → ℕ → ℕ → ℕ
lesser_in_change grid p s one other b =
    min (in_front grid p s one b) (in_front grid p s other b) + min (behind grid p s one b) (behind grid p s other b)

-- and that of all seconds
abbrev pub lesser_of_change : Grid → ℕ → List ℕ → List ℕ → ℕ → ℕ
lesser_of_change grid p one other b =
    sum_below SECONDS_PER_MINUTE (λ s. lesser_in_change grid p s (slice_index one s) (slice_index other s) b)

-- what it costs in second s of walk minute 0, and of all later minutes together
abbrev pub in_first : Grid → ℕ → ℕ → ℕ → ℕ
in_first grid p s set = at_place grid p set s

abbrev pub in_later : Grid → ℕ → ℕ → ℕ → ℕ
in_later grid p s set = sum_below LATER_MINUTES (λ m. at_place grid p set (SECONDS_PER_MINUTE * (m + 1) + s))

-- a column for each first second and each second, in this order, which has what each set costs there
pub record AreColumns (columns : List (List ℕ)) (cost : ℕ → ℕ → ℕ → ℕ) : Type 0 where
  pub count : length columns ≡ COLUMNS
  pub each : (i set : ℕ) → i < COLUMNS → set < SETS → entry columns i set ≡ cost (i / SECONDS_PER_MINUTE) (i % SECONDS_PER_MINUTE) set

-- the tables of a grid
pub record AreTables (grid : Grid) (first later : List (List ℕ)) : Type 0 where
  pub bounded : IsBounded grid
  pub in_first : AreColumns first (in_first grid)
  pub in_later : AreColumns later (in_later grid)

-- what the columns of first second p and second s have of a part in walk minute 0 and another in all later minutes
abbrev pub column_cost : List (List ℕ) → List (List ℕ) → ℕ → List ℕ → List ℕ → ℕ → ℕ
column_cost first later p in_first in_later s =
    entry first (SECONDS_PER_MINUTE * p + s) (index_of (slice_index in_first s))
    + entry later (SECONDS_PER_MINUTE * p + s) (index_of (slice_index in_later s))

-- and what those of all its seconds have
abbrev pub columns_cost : List (List ℕ) → List (List ℕ) → ℕ → List ℕ → List ℕ → ℕ
columns_cost first later p in_first in_later = sum_below SECONDS_PER_MINUTE (column_cost first later p in_first in_later)

-- The lesser of what two parts cost there in all minutes, and that of all seconds.
abbrev pub lesser_column : List (List ℕ) → List (List ℕ) → ℕ → List ℕ → List ℕ → ℕ → ℕ
lesser_column first later p one other s = min (column_cost first later p one one s) (column_cost first later p other other s)

abbrev pub lesser_cost : List (List ℕ) → List (List ℕ) → ℕ → List ℕ → List ℕ → ℕ
lesser_cost first later p one other = sum_below SECONDS_PER_MINUTE (lesser_column first later p one other)
