-- Walks that begin in one run of a station's minutes and go on to the next ones, which encode another local time.
use Rattle.std.specs.Prelude.{ℕ, ◌≡◌, ◌⊎◌, ◌+◌, ◌<◌, ◌≤◌, Bool, false, length, slice_index}
use Rattle.definitions.specs.time.Calendar.{minute_length}
use Rattle.symbol_cost.specs.Grid.{cost_at}
use Rattle.minute_parts.specs.Overlay.{is_given_up}
use Rattle.minute_parts.specs.Parts.{IsInRun, local_time, part_where}
use Rattle.minute_parts.specs.Runs.{end_of_run, run_at}
use Rattle.slot_columns.specs.Parts.{split_cost}
use Rattle.slot_columns.specs.declared.limits.TheConstants.{SECONDS_PER_MINUTE}
use Rattle.slot_columns.specs.declared.split.TheConstants.{SPLITS}
use Rattle.walk_costs.specs.declared.over.Over.{Over}
use Rattle.walk_costs.specs.Changes.{AreCostsOver}
use Rattle.walk_costs.specs.Kinds.{either_part}
use Rattle.walk_costs.specs.Walks.{PricedParts, last_minute}

-- the walk from second p of the minute t0 begins in the run i, and its other minutes lie in the next run or in the run j, which
-- encodes the same local time as the next
pub record IsOver (w : PricedParts) (announced : Bool) (p t0 i j : ℕ) : Type 0 where
  pub second : p < SECONDS_PER_MINUTE
  pub begins : IsInRun w.parts t0 i
  pub leaves : end_of_run w.parts.runs w.parts.end i ≤ last_minute w p t0
  pub later : (t : ℕ) → end_of_run w.parts.runs w.parts.end i ≤ t → t ≤ last_minute w p t0 → (IsInRun w.parts t (i + 1)) ⊎ (IsInRun w.parts t j)
  pub alike : (run_at w.parts.runs j).shift ≡ (run_at w.parts.runs (i + 1)).shift
  pub short : (t : ℕ) → t0 ≤ t → t ≤ last_minute w p t0 → minute_length announced t ≡ 60

-- where the next run begins, and what the times of day cost in such walks, and the dates at the least, by how many minutes of a walk
-- lie in the first run; of the others each may carry the date of either run. The station sends no call sign
pub record AreCostsOfOver (w : PricedParts) (o : Over) : Type 0 where
  pub runs : (o.run + 1 < length w.parts.runs) × (o.last < length w.parts.runs)
  pub keeps : (s : ℕ) → is_given_up w.grid.station s ≡ false
  pub ends : o.end ≡ end_of_run w.parts.runs w.parts.end o.run
  pub times : AreCostsOver w.grid w.parts.times (local_time (run_at w.parts.runs o.run) o.end) (local_time (run_at w.parts.runs (o.run + 1)) o.end) o.second o.times
  pub dates : (b : ℕ) → b < SPLITS
      → slice_index o.dates b
      ≡ split_cost w.grid.station (cost_at w.grid.rows) (length w.grid.rows) o.second b (part_where o.announced (run_at w.parts.runs o.run))
      (either_part (part_where o.announced (run_at w.parts.runs (o.run + 1))) (part_where o.announced (run_at w.parts.runs o.last)))
