-- Blocks whose walks have 60 seconds in each minute.
use Rattle.std.specs.Prelude.{ℕ, ◌+◌, ◌/◌, ◌%◌, ◌≡◌, ◌<◌, ◌≤◌, if◌then◌else◌, true}
use Rattle.signal_base.specs.declared.station.Station.{Station}
use Rattle.signal_base.specs.declared.window.Window.{Window}
use Rattle.definitions.specs.declared.block.Block.{Block}
use Rattle.definitions.specs.time.Calendar.{minute_length}
use Rattle.definitions.specs.codes.Allowed.{has_station}
use Rattle.minute_parts.specs.Unions.{IsUnionOver}
use Rattle.minute_parts.specs.Walks.{reach}

-- minutes of the window's range, and a second that a minute can have
pub record AreMinutesOf (window : Window) (b : Block) : Type 0 where
  pub second : b.second < (if b.announced then 61 else 60)
  pub not_empty : b.lo < b.hi
  pub not_before : window.from ≤ b.lo
  pub no_later : b.hi ≤ window.to

-- the walks of the block have 60 seconds in each minute
pub record HasShortWalks (window : Window) (b : Block) : Type 0 where
  pub second : b.second < 60
  pub short : (t : ℕ) → b.lo ≤ t → t < b.hi + reach window b → minute_length b.announced t ≡ 60

-- in each slot the union of what the station may carry in the minutes that the walks are in there which begin from the
-- block's first minute up to, and without, hi
abbrev pub AreUnionsOver : Window → Block → ℕ → (Station → ℕ → ℕ) → Type 0
AreUnionsOver window b hi unions = (station : Station) (k : ℕ) → has_station window.stations station ≡ true → k < window.seconds
    → IsUnionOver station b.announced (b.lo + (b.second + k) / 60) (hi + (b.second + k) / 60) ((b.second + k) % 60) (unions station k)
