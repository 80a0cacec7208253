-- The sequences of a block, by the minute in which they begin.
use Rattle.std.specs.Prelude.{ℕ, []}
use Rattle.signal_base.specs.declared.station.Station.TheVariants.{Dcf77}
use Rattle.definitions.specs.declared.block.Block.{Block}
use Rattle.definitions.specs.declared.sequence.Sequence.{Sequence}
use Rattle.walk_costs.specs.Walks.{PricedParts}

-- what stands past the end of lists
abbrev pub no_walks : PricedParts
no_walks = record { parts = record { station = Dcf77; times = []; runs = []; end = 0 }; grid = record { station = Dcf77; receivers = 0; rows = [] } }

-- the sequence of a block that begins in a minute
abbrev pub sequence_at : Block → ℕ → Sequence
sequence_at b t0 = record { first = t0; second = b.second; announced = b.announced }
