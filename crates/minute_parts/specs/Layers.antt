-- A block's minutes in two layers: those in which its walks begin, and those in which they are later.
use Rattle.std.specs.Prelude.{ℕ, ◌+◌, ◌<◌, ◌≤◌, Bool, slice_index}
use Rattle.signal_base.specs.declared.station.Station.{Station}
use Rattle.minute_parts.specs.declared.layers.Layers.{Layers}
use Rattle.minute_parts.specs.declared.part.TheConstants.{SECONDS}
use Rattle.minute_parts.specs.Unions.{IsUnionOver}

-- the walks begin in the minutes from lo up to, and without, hi: the union over these, and the one that the minutes have m
-- minutes later, the same for each m up to the last minute that is reached
pub record AreLayers (station : Station) (announced : Bool) (lo hi reach : ℕ) (layers : Layers) : Type 0 where
  pub first : (s : ℕ) → s < SECONDS → IsUnionOver station announced lo hi s (slice_index layers.first s)
  pub rest : (m s : ℕ) → 1 ≤ m → m ≤ reach → s < SECONDS → IsUnionOver station announced (lo + m) (hi + m) s (slice_index layers.rest s)

-- some minutes are common to all these ranges, and have the union that all minutes of the ranges have
pub record IsSteady (station : Station) (announced : Bool) (lo hi reach : ℕ) : Type 0 where
  pub common : lo + reach ≤ hi
  pub same : (s : ℕ) → s < SECONDS
      → (set : ℕ) × IsUnionOver station announced (lo + 1) (hi + reach) s set × IsUnionOver station announced (lo + reach) (hi + 1) s set
