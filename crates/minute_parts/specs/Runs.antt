-- Runs of minutes over which what a station tells by the date stays as it is.
use Rattle.std.specs.Prelude.{ℕ, ◌≡◌, ◌+◌, ◌-◌, ◌*◌, ◌/◌, ◌<◌, ◌≤◌, nat_lt, if◌then◌else◌, List, [], length, slice_index, slice_index_or}
use Rattle.signal_base.specs.declared.station.Station.{Station}
use Rattle.definitions.specs.time.Calendar.{minutes_per_day}
use Rattle.minute_parts.specs.declared.dates.DateFacts.{DateFacts}
use Rattle.minute_parts.specs.declared.runs.Run.{Run}
use Rattle.minute_parts.specs.Dates.{date_facts, date_part, shift_by, unannounced}

-- a run that begins at a minute with these facts
abbrev pub run_by : Station → ℕ → DateFacts → Run
run_by station first f =
    record { first = first; shift = shift_by station f; unannounced = date_part station (unannounced f); announced = date_part station f }

-- the run of a number, and its first minute
abbrev pub no_run : Run
no_run = record { first = 0; shift = 0; unannounced = []; announced = [] }

abbrev pub run_at : List Run → ℕ → Run
run_at runs i = slice_index_or runs i no_run

abbrev pub first_of : List Run → ℕ → ℕ
first_of runs i = (run_at runs i).first

-- it ends where the next begins, and the last one at the end of all
abbrev pub end_of_run : List Run → ℕ → ℕ → ℕ
end_of_run runs end i = if nat_lt (i + 1) (length runs) then first_of runs (i + 1) else end

abbrev pub last_of : List Run → ℕ
last_of runs = length runs - 1

-- the runs of the minutes before `end`, of which the last has these facts
pub record Covers (station : Station) (runs : List Run) (date : DateFacts) (end : ℕ) : Type 0 where
  pub some : 0 < length runs
  pub begins : first_of runs 0 ≡ 0
  pub each : (i : ℕ) → i < length runs → run_at runs i ≡ run_by station (first_of runs i) (date_facts station (first_of runs i))
  pub rise : (i : ℕ) → i + 1 < length runs → first_of runs i < first_of runs (i + 1)
  pub last : first_of runs (last_of runs) ≤ end
  pub latest : date ≡ date_facts station (first_of runs (last_of runs))
  pub same : (i t : ℕ) → i < length runs → first_of runs i ≤ t → t < end_of_run runs end i
      → date_facts station t ≡ date_facts station (first_of runs i)

-- the first of these runs are those
pub record Extends (more runs : List Run) : Type 0 where
  pub longer : length runs ≤ length more
  pub front : (i : ℕ) → i < length runs → run_at more i ≡ run_at runs i

-- for each of n days a run that begins at its first minute or before
pub record Points (days : List ℕ) (runs : List Run) (n : ℕ) : Type 0 where
  pub long : length days ≡ n
  pub within : (d : ℕ) → d < n → slice_index days d < length runs
  pub before : (d : ℕ) → d < n → first_of runs (slice_index days d) ≤ d * minutes_per_day

-- how many days begin before a minute
abbrev pub days_before : ℕ → ℕ
days_before t = (t + (minutes_per_day - 1)) / minutes_per_day
