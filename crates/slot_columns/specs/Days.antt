-- What each second carries minute by minute through a day: a column for each second, which has the places of sets in
-- rows, for the minutes of the day and for as many after it as a walk may reach. These are the day's first again.
use Rattle.std.specs.Prelude.{ℕ, ◌≡◌, ◌+◌, ◌*◌, ◌/◌, ◌%◌, ◌<◌, Bool, false, true, List, [], length, slice_index, slice_index_or}
use Rattle.definitions.specs.time.Calendar.{minutes_per_day}
use Rattle.symbol_cost.specs.Grid.{Grid}
use Rattle.slot_columns.specs.Parts.{entry}
use Rattle.slot_columns.specs.Rows.{cost_in_slot, index_of}
use Rattle.slot_columns.specs.declared.sums.Sums.{Sums}
use Rattle.slot_columns.specs.declared.limits.TheConstants.{HOUR_MINUTES, REACHED_MINUTES, SECONDS_PER_MINUTE, SETS}

-- the columns of the parts of a day's minutes
abbrev pub AreOfDay : List (List ℕ) → List (List ℕ) → Type 0
AreOfDay columns times =
    (s i : ℕ) → s < SECONDS_PER_MINUTE → i < REACHED_MINUTES
    → entry columns s i ≡ index_of (slice_index (slice_index_or times (i % minutes_per_day) []) s)

-- the minute with which the hour of a minute begins
abbrev pub hour_begin : ℕ → ℕ
hour_begin i = i / HOUR_MINUTES * HOUR_MINUTES

-- columns of places in rows. In a second that isn't told to be used all are 0, the place of sets that cost nothing; one that is
-- told to be hourly carries the same in each hour, and one that is told to be steady the same throughout an hour
pub record AreDayColumns (columns : List (List ℕ)) (used hourly steady : List Bool) : Type 0 where
  pub count : length columns ≡ SECONDS_PER_MINUTE
  pub bound : (s i : ℕ) → s < SECONDS_PER_MINUTE → i < REACHED_MINUTES → entry columns s i < SETS
  pub unused : (s i : ℕ) → s < SECONDS_PER_MINUTE → slice_index_or used s false ≡ false → i < REACHED_MINUTES → entry columns s i ≡ 0
  pub repeats : (s i : ℕ) → s < SECONDS_PER_MINUTE → slice_index_or hourly s false ≡ true → i < REACHED_MINUTES
      → entry columns s i ≡ entry columns s (i % HOUR_MINUTES)
  pub stays : (s i : ℕ) → s < SECONDS_PER_MINUTE → slice_index_or steady s false ≡ true → i < REACHED_MINUTES
      → entry columns s i ≡ entry columns s (hour_begin i)

-- what the sets of these columns cost in slot k of a walk that begins in second p of minute u of the day
abbrev pub day_cost : Grid → List (List ℕ) → ℕ → ℕ → ℕ → ℕ
day_cost grid columns p u k =
    cost_in_slot grid (entry columns ((p + k) % SECONDS_PER_MINUTE) (u + (p + k) / SECONDS_PER_MINUTE)) k

-- what the walks cost so far that begin in minute u of the day
abbrev pub cost_so_far : Sums → ℕ → ℕ
cost_so_far sums u =
    slice_index sums.costs u + slice_index sums.hourly (u % HOUR_MINUTES) + slice_index sums.by_hour ((u + sums.minute) / HOUR_MINUTES)
