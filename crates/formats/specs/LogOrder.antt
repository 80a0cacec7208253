-- What each log keeps: its times rise and are small, and there aren't too many.
use Rattle.std.specs.Prelude.{ℕ, ◌<◌, ◌≤◌, length, All, slice_index_or}
use Rattle.definitions.specs.heard.Logs.{Record, Records, time_of}
use Rattle.formats.specs.declared.limits.TheConstants.{MOST_RECORDS, TIME_LIMIT}

-- a record's time is below that of each record after it
abbrev pub IsRising : Records → Type 0
IsRising log =
    (i j : ℕ) (d : Record) → i < j → j < length log → time_of (slice_index_or log i d) < time_of (slice_index_or log j d)

-- the times rise and are below 10^12 ms, and there are at most 200,000 records
pub record IsOrderly (log : Records) : Type 0 where
  pub rising : IsRising log
  pub below : All (λ r. time_of r < TIME_LIMIT) log
  pub most : length log ≤ MOST_RECORDS
