-- What the time of day costs and what the dates do, apart from each other.
use Rattle.std.specs.Prelude.{ℕ, ◌≡◌, ◌⊎◌, ◌+◌, ◌%◌, ◌<◌, ◌≤◌, Bool, List, length, slice_index}
use Rattle.definitions.specs.time.Calendar.{minutes_per_day}
use Rattle.symbol_cost.specs.Grid.{cost_at}
use Rattle.minute_parts.specs.Parts.{PartTable, part_where}
use Rattle.minute_parts.specs.Runs.{end_of_run, run_at}
use Rattle.slot_columns.specs.Parts.{walk_cost}
use Rattle.walk_costs.specs.declared.apart.DateFloor.{DateFloor}
use Rattle.walk_costs.specs.Dates.{minutes_to_call}
use Rattle.walk_costs.specs.Kinds.{either_part}
use Rattle.walk_costs.specs.Walks.{PricedParts, cost_of}

-- what the time of day costs in a walk from second p whose first minute encodes the minute u of the local day
abbrev pub time_cost : PricedParts → ℕ → ℕ → ℕ
time_cost w p u = walk_cost w.grid.station (cost_at w.grid.rows) (length w.grid.rows) p w.parts.times u

-- what the dates of two runs tell together
abbrev pub told_of_both : PartTable → Bool → ℕ → ℕ → List ℕ
told_of_both parts announced i j = either_part (part_where announced (run_at parts.runs i)) (part_where announced (run_at parts.runs j))

-- with that no sequence costs less that begins in second p of the minutes from lo up to, and without, hi
abbrev pub IsDateFloor : PricedParts → Bool → ℕ → ℕ → ℕ → DateFloor → Type 0
IsDateFloor w announced p lo hi dates = (t0 : ℕ) → lo ≤ t0 → t0 < hi
    → time_cost w p ((t0 + dates.shift) % minutes_per_day) + dates.kept + slice_index dates.given (minutes_to_call ((t0 + dates.shift) % minutes_per_day))
    ≤ cost_of w announced p t0

-- the minutes from the run i on up to this one end in the run j, which is the run i or the next, and encodes the local time alike
pub record IsRunAtEnd (parts : PartTable) (i last j : ℕ) : Type 0 where
  pub is_run : j < length parts.runs
  pub within : last < end_of_run parts.runs parts.end j
  pub near : (j ≡ i) ⊎ (j ≡ i + 1)
  pub alike : (run_at parts.runs j).shift ≡ (run_at parts.runs i).shift
