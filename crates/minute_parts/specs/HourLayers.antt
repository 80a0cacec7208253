-- What the time of day tells in the walks of an hour.
use Rattle.std.specs.Prelude.{ℕ, ◌+◌, ◌<◌, ◌≤◌, List, slice_index}
use Rattle.minute_parts.specs.declared.hour_layers.TheConstants.{HOUR_MINUTES}
use Rattle.minute_parts.specs.declared.layers.Layers.{Layers}
use Rattle.minute_parts.specs.declared.part.TheConstants.{SECONDS}
use Rattle.minute_parts.specs.Times.{time_at}
use Rattle.minute_parts.specs.Unions.{IsUnionOf}

-- in the hour that begins with minute u of the local day, and in the 60 minutes that begin m minutes later, the same for each
-- m up to the last minute that is reached
pub record AreTimeLayers (times : List (List ℕ)) (u reach : ℕ) (layers : Layers) : Type 0 where
  pub first : (s : ℕ) → s < SECONDS → IsUnionOf (time_at times s) u (u + HOUR_MINUTES) (slice_index layers.first s)
  pub rest : (m s : ℕ) → 1 ≤ m → m ≤ reach → s < SECONDS → IsUnionOf (time_at times s) (u + m) (u + m + HOUR_MINUTES) (slice_index layers.rest s)
