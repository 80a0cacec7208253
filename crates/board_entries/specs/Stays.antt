-- Walks that stay in the century.
use Rattle.std.specs.Prelude.{ℕ, ◌<◌}
use Rattle.definitions.specs.declared.sequence.Sequence.{Sequence}
use Rattle.definitions.specs.time.Calendar.{century_minutes}
use Rattle.definitions.specs.time.Places.{minute_of}
use Rattle.definitions.specs.sequences.Walks.{place_at}

-- so many slots of the walk lie in the century
abbrev pub StaysInCentury : Sequence → ℕ → Type 0
StaysInCentury q slots = (k : ℕ) → k < slots → minute_of (place_at q k) < century_minutes
