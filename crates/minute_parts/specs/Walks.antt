-- Blocks whose walks meet no minute of 61 seconds: each slot is the same second of each walk.
use Rattle.std.specs.Prelude.{ℕ, ◌+◌, ◌-◌, ◌/◌, ◌≡◌, ◌<◌, ◌≤◌}
use Rattle.signal_base.specs.declared.window.Window.{Window}
use Rattle.definitions.specs.declared.block.Block.{Block}
use Rattle.definitions.specs.time.Calendar.{minute_length}
use Rattle.definitions.specs.codes.Allowed.{CanBeEncoded}
use Rattle.minute_parts.specs.declared.part.TheConstants.{SECONDS}

-- how many minutes a walk of n slots goes on after its first one, of which it takes second p first
abbrev pub later_minutes : ℕ → ℕ → ℕ
later_minutes n p = (p + n - 1) / SECONDS

-- and so many a walk of a block
abbrev pub reach : Window → Block → ℕ
reach window b = later_minutes window.seconds b.second

-- no walk of the block meets a minute of 61 seconds, or one that can't be encoded
pub record HasRegularWalks (window : Window) (b : Block) : Type 0 where
  pub second : b.second < 60
  pub short : (t : ℕ) → b.lo ≤ t → t < b.hi + reach window b → minute_length b.announced t ≡ 60
  pub encoded : (t : ℕ) → b.lo ≤ t → t < b.hi + reach window b → CanBeEncoded window.stations t
