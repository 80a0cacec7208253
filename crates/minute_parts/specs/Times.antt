-- What the time of day tells, minute by minute through days without end, and unions of it.
use Rattle.std.specs.Prelude.{ℕ, ◌+◌, ◌*◌, ◌/◌, ◌%◌, ◌^◌, ◌≡◌, ◌<◌, List, [], length, slice_index, slice_index_or}
use Rattle.definitions.specs.time.Calendar.{minutes_per_day}
use Rattle.minute_parts.specs.declared.time_unions.TheConstants.{LEVELS}
use Rattle.minute_parts.specs.Unions.{IsUnionOf}

-- the minute i of these days has the set of its minute of the day, of which the parts are given
abbrev pub time_at : List (List ℕ) → ℕ → ℕ → ℕ
time_at times s i = slice_index (slice_index_or times (i % minutes_per_day) []) s

-- the set of second s in entry n of some parts
abbrev pub entry : List (List ℕ) → ℕ → ℕ → ℕ
entry parts n s = slice_index (slice_index_or parts n []) s

-- entry n is the union of 2 ^ (n / 1440) minutes on end, from minute n % 1440 of the day on
abbrev pub IsLevelEntry : List (List ℕ) → List (List ℕ) → ℕ → Type 0
IsLevelEntry times parts n =
    (s : ℕ) → s < 60 → IsUnionOf (time_at times s) (n % minutes_per_day) (n % minutes_per_day + 2 ^ (n / minutes_per_day)) (entry parts n s)

-- the unions of 1, 2, 4 and so on up to 1,024 minutes on end, from each minute of the day on
pub record IsTimeTable (times parts : List (List ℕ)) : Type 0 where
  pub count : length parts ≡ LEVELS * minutes_per_day
  pub each : (n : ℕ) → n < LEVELS * minutes_per_day → IsLevelEntry times parts n
