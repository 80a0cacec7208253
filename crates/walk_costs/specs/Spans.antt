-- What the dates of many runs tell together, where no leap second is announced.
use Rattle.std.specs.Prelude.{ℕ, ◌≡◌, ◌⊎◌, ◌<◌, ◌≤◌, true, false, List, length, slice_index}
use Rattle.signal_base.specs.declared.station.Station.{Station}
use Rattle.signal_base.specs.Mask.{has_bit}
use Rattle.minute_parts.specs.Overlay.{is_given_up, is_time_second}
use Rattle.minute_parts.specs.Parts.{PartTable, part_where}
use Rattle.minute_parts.specs.Runs.{run_at}
use Rattle.slot_columns.specs.Rows.{index_of}
use Rattle.slot_columns.specs.declared.limits.TheConstants.{SECONDS_PER_MINUTE}
use Rattle.walk_costs.specs.declared.kinds.TheConstants.{SETS}
use Rattle.walk_costs.specs.declared.span.DateSpan.{DateSpan}

-- each symbol of a set is in another
abbrev pub IsHeldBy : ℕ → ℕ → Type 0
IsHeldBy set other = (n : ℕ) → has_bit (index_of set) n ≡ true → has_bit other n ≡ true

-- sets that tell nothing of the seconds that the station gives up for its call sign, nor of those that the time of day tells
pub record TellDates (station : Station) (sets : List ℕ) : Type 0 where
  pub small : (s : ℕ) → s < SECONDS_PER_MINUTE → slice_index sets s < SETS
  pub given : (s : ℕ) → s < SECONDS_PER_MINUTE → is_given_up station s ≡ true → slice_index sets s ≡ 0
  pub timed : (s : ℕ) → s < SECONDS_PER_MINUTE → is_given_up station s ≡ false → is_time_second station s ≡ true → slice_index sets s ≡ 0

-- Of two parts the sets of the one or the other hold in each second what the date tells in a run, whichever of the runs it is.
pub record HoldsDates (parts : PartTable) (station : Station) (span : DateSpan) : Type 0 where
  pub within : span.to ≤ length parts.runs
  pub one : TellDates station span.one
  pub other : TellDates station span.other
  pub either : (i s : ℕ) → span.from ≤ i → i < span.to → s < SECONDS_PER_MINUTE → is_given_up station s ≡ false
      → IsHeldBy (slice_index (part_where false (run_at parts.runs i)) s) (slice_index span.one s)
      ⊎ IsHeldBy (slice_index (part_where false (run_at parts.runs i)) s) (slice_index span.other s)
