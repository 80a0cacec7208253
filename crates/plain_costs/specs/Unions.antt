-- The sequences of a block by their first minutes, and what they allow together.
use Rattle.std.specs.Prelude.{ℕ, ◌≡◌, ◌<◌, true}
use Rattle.signal_base.specs.declared.station.Station.{Station}
use Rattle.signal_base.specs.declared.window.Window.{Window}
use Rattle.definitions.specs.declared.block.Block.{Block}
use Rattle.definitions.specs.declared.sequence.Sequence.{Sequence}
use Rattle.definitions.specs.codes.Allowed.{has_station}
use Rattle.definitions.specs.answers.Blocks.{IsUnion}

-- the block's sequence from a minute on
abbrev pub sequence_from : Block → ℕ → Sequence
sequence_from b first = record { first = first; second = b.second; announced = b.announced }

-- these are the unions of what the block's sequences allow each station of the window in each slot
abbrev pub AreUnions : Window → Block → (Station → ℕ → ℕ) → Type 0
AreUnions window b unions = (station : Station) (k : ℕ) → has_station window.stations station ≡ true → k < window.seconds
    → IsUnion window b station k (unions station k)
