-- Rows that are kept: of walks that begin in some minutes and go on for the seconds of a window, from whichever second on.
use Rattle.std.specs.Prelude.{ℕ, ◌≡◌, ◌+◌, ◌-◌, ◌*◌, ◌/◌, ◌<◌, ◌≤◌, false, true, List, slice_index}
use Rattle.signal_base.specs.declared.station.Station.{Station}
use Rattle.definitions.specs.time.Calendar.{century_minutes, is_leap_end}
use Rattle.definitions.specs.sequences.Walks.{set_at}
use Rattle.minute_parts.specs.Unions.{IsUnionOf}
use Rattle.leap_unions.specs.declared.kept.Kept.{Kept}
use Rattle.leap_unions.specs.declared.tapes.KeptTape.{KeptTape}
use Rattle.leap_unions.specs.Pieces.{announced_from}

-- for each second from the start of the first minute on the union of what the walks carry there that begin in the minutes
-- from lo up to, and without, hi; the walk from second 59 on is the last to end
abbrev pub IsRow : Station → ℕ → ℕ → ℕ → List ℕ → Type 0
IsRow station seconds lo hi row =
    (i : ℕ) → i < seconds + 59 → IsUnionOf (λ first. set_at station (announced_from 0 first) i) lo hi (slice_index row i)

-- how many minutes after its first one such a walk reaches at most
abbrev pub row_reach : ℕ → ℕ
row_reach seconds = (seconds + 58) / 60

-- the row is of some minutes of the century
pub record IsKept (station : Station) (seconds : ℕ) (kept : Kept) : Type 0 where
  pub some : kept.lo < kept.hi
  pub century : kept.hi ≤ century_minutes
  pub row : IsRow station seconds kept.lo kept.hi kept.row

-- The tape has what each walk carries that begins in one of its minutes, at most 21. The last of them has 61 seconds, the others
-- 60. The walk from second 59 on is the last to end.
pub record IsKeptTape (station : Station) (seconds : ℕ) (kept : KeptTape) : Type 0 where
  pub few : kept.hi ≤ kept.lo + 21
  pub short : (t : ℕ) → kept.lo ≤ t → t + 1 < kept.hi → is_leap_end t ≡ false
  pub leap : (t : ℕ) → t + 1 ≡ kept.hi → is_leap_end t ≡ true
  pub walk : (t k : ℕ) → kept.lo ≤ t → t < kept.hi → k < seconds + 59
      → slice_index kept.tape (60 * (t - kept.lo) + k) ≡ set_at station (announced_from 0 t) k
