-- The telegrams of a century in parts: what the table of a station says.
use Rattle.std.specs.Prelude.{ℕ, ◌≡◌, ◌+◌, ◌%◌, ◌<◌, ◌≤◌, ◌↔◌, Bool, true, false, if◌then◌else◌, List, [], length, slice_index, slice_index_or}
use Rattle.signal_base.specs.declared.station.Station.{Station}
use Rattle.definitions.specs.time.Calendar.{century_minutes, minute_length, minutes_per_day}
use Rattle.definitions.specs.codes.Allowed.{allowed, encoded_year}
use Rattle.minute_parts.specs.declared.runs.Run.{Run}
use Rattle.minute_parts.specs.Overlay.{is_time_second, overlay, tells_time}
use Rattle.minute_parts.specs.Runs.{end_of_run, first_of, run_at}

-- the parts by the time of day, of the 1,440 minutes of a local day, and the runs of minutes, each with its parts by the
-- date; the last run ends at the first minute that the station can't encode
pub record PartTable : Type 0 where
  pub station : Station
  pub times : List (List ℕ)
  pub runs : List Run
  pub end : ℕ

-- the part by the time of day, where the minute u of the local day is encoded
abbrev pub times_at : PartTable → ℕ → List ℕ
times_at p u = slice_index_or p.times u []

-- the part of a run by the date
abbrev pub part_where : Bool → Run → List ℕ
part_where announced run = if announced then run.announced else run.unannounced

-- the minute of the local day that is encoded in a minute of a run
abbrev pub local_time : Run → ℕ → ℕ
local_time run t = (t + run.shift) % minutes_per_day

-- what a second of a minute of a run may carry, by the two parts
abbrev pub set_in_run : PartTable → Bool → Run → ℕ → ℕ → ℕ
set_in_run p announced run t s = overlay (slice_index (times_at p (local_time run t)) s) (slice_index (part_where announced run) s)

-- t lies in the run i
pub record IsInRun (p : PartTable) (t i : ℕ) : Type 0 where
  pub is_run : i < length p.runs
  pub begun : first_of p.runs i ≤ t
  pub not_over : t < end_of_run p.runs p.end i

-- The table says what each second of each minute of 60 seconds may carry that the station can encode.
pub record IsPartTable (p : PartTable) : Type 0 where
  -- the shapes
  pub minutes : length p.times ≡ minutes_per_day
  pub time_seconds : (u : ℕ) → u < minutes_per_day → length (times_at p u) ≡ 60
  pub date_seconds : (announced : Bool) (i : ℕ) → i < length p.runs → length (part_where announced (run_at p.runs i)) ≡ 60
  -- the runs follow one another from the first minute on to the last that the station can encode
  pub some : 0 < length p.runs
  pub begins : first_of p.runs 0 ≡ 0
  pub rise : (i : ℕ) → i < length p.runs → first_of p.runs i < end_of_run p.runs p.end i
  pub ends : (t : ℕ) → t < p.end ↔ ((t < century_minutes) × (encoded_year p.station t ≤ 2099))
  -- each part tells something of its own seconds, and nothing of the others; those that JJY gives up for its call sign the
  -- date tells too
  pub time_told : (u s : ℕ) → u < minutes_per_day → s < 60 → tells_time p.station u s ≡ true → 0 < slice_index (times_at p u) s
  pub time_alone : (u s : ℕ) → u < minutes_per_day → s < 60 → tells_time p.station u s ≡ false → slice_index (times_at p u) s ≡ 0
  pub date_told : (announced : Bool) (i s : ℕ) → i < length p.runs → s < 60 → is_time_second p.station s ≡ false
      → 0 < slice_index (part_where announced (run_at p.runs i)) s
  pub date_alone : (announced : Bool) (i s : ℕ) → i < length p.runs → s < 60 → is_time_second p.station s ≡ true
      → slice_index (part_where announced (run_at p.runs i)) s ≡ 0
  -- and both together tell what it may carry
  pub tells : (announced : Bool) (i t s : ℕ) → IsInRun p t i → minute_length announced t ≡ 60 → s < 60
      → allowed p.station announced (t, s) ≡ set_in_run p announced (run_at p.runs i) t s
