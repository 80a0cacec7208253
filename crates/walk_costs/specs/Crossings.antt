-- Walks with 60 seconds in each minute that begin in one run of a station's minutes and end in the next.
use Rattle.std.specs.Prelude.{ℕ, ◌≡◌, ◌+◌, ◌<◌, ◌≤◌, Bool, nat_lt, if◌then◌else◌, length, slice_index}
use Rattle.definitions.specs.time.Calendar.{minute_length}
use Rattle.symbol_cost.specs.Grid.{cost_at}
use Rattle.minute_parts.specs.Parts.{IsInRun, part_where}
use Rattle.minute_parts.specs.Runs.{end_of_run, run_at}
use Rattle.slot_columns.specs.Parts.{split_cost}
use Rattle.slot_columns.specs.declared.limits.TheConstants.{SECONDS_PER_MINUTE}
use Rattle.slot_columns.specs.declared.split.TheConstants.{SPLITS}
use Rattle.walk_costs.specs.declared.crossing.Crossing.{Crossing}
use Rattle.walk_costs.specs.Walks.{PricedParts, last_minute}

-- the walk from second p of the minute t0 begins in the run i and ends in the next, which encodes the local time alike
pub record IsAcross (w : PricedParts) (announced : Bool) (p t0 i : ℕ) : Type 0 where
  pub second : p < SECONDS_PER_MINUTE
  pub begins : IsInRun w.parts t0 i
  pub ends : IsInRun w.parts (last_minute w p t0) (i + 1)
  pub alike : (run_at w.parts.runs (i + 1)).shift ≡ (run_at w.parts.runs i).shift
  pub short : (t : ℕ) → t0 ≤ t → t ≤ last_minute w p t0 → minute_length announced t ≡ 60

-- the run in which walk minute m lies, where the first b minutes lie in the run i
abbrev pub run_across : ℕ → ℕ → ℕ → ℕ
run_across i b m = if nat_lt m b then i else i + 1

-- where the next run begins, and what the dates of both cost, by how many minutes of a walk lie in the first
pub record IsCrossing (w : PricedParts) (c : Crossing) : Type 0 where
  pub ends : c.end ≡ end_of_run w.parts.runs w.parts.end c.run
  pub shift : c.shift ≡ (run_at w.parts.runs c.run).shift
  pub dates : (b : ℕ) → b < SPLITS
      → slice_index c.dates b
      ≡ split_cost w.grid.station (cost_at w.grid.rows) (length w.grid.rows) c.second b
      (part_where c.announced (run_at w.parts.runs c.run)) (part_where c.announced (run_at w.parts.runs (c.run + 1)))
