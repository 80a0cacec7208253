-- Where a millisecond stands among the records of a log.
use Rattle.std.specs.Prelude.{ℕ, zero, suc, ◌<◌, ◌≤◌, nat_lt, if◌then◌else◌, length, take, slice_index_or, Option}
use Rattle.definitions.specs.declared.level.Level.{Level}
use Rattle.definitions.specs.declared.level.Level.TheVariants.{Unknown}
use Rattle.definitions.specs.heard.Logs.{Records, count_level, last_level}
use Rattle.formats.specs.LogOrder.{IsRising}

-- the first n records are not after this millisecond, and all others are
pub record StandsAfter (log : Records) (ms n : ℕ) : Type 0 where
  pub within : n ≤ length log
  pub before : (k : ℕ) (d : ℕ × Level) → k < n → (slice_index_or log k d).0 ≤ ms
  pub after : (k : ℕ) (d : ℕ × Level) → n ≤ k → k < length log → ms < (slice_index_or log k d).0

-- the level after the first n records, which is known where another record follows
abbrev pub level_after : Records → ℕ → Level
level_after log n = if nat_lt n (length log) then last_level (take n log) else Unknown

-- how many milliseconds are low with n more of one level; none where one of them is unknown
unfoldable pub count_levels : Level → ℕ → Option ℕ → Option ℕ
count_levels level zero low = low
count_levels level (suc n) low = count_level level (count_levels level n low)

-- a log from one of its milliseconds on
pub record LogFrom : Type 0 where
  pub log : Records
  pub at : ℕ

-- the times rise, and the first n records are not after the millisecond
pub record IsPlaced (log : Records) (at n : ℕ) : Type 0 where
  pub rising : IsRising log
  pub place : StandsAfter log at n
