-- Entries for examples.
use Rattle.std.specs.Prelude.{ℕ, true, List, [], ◌∷◌, replicate}
use Rattle.definitions.specs.declared.sequence.Sequence.{Sequence}
use Rattle.definitions.specs.examples.Dates.{at, on}
use Rattle.definitions.specs.examples.Sequences.{from_place}
use Rattle.board_entries.specs.Board.{PlainEntry}

-- a minute of 10 June 2024
abbrev pub in_june : ℕ → ℕ → ℕ
in_june hour minute = at (on 2024 6 10) hour minute

-- two minutes from a millisecond on, of which this was decided
abbrev pub decided : ℕ → Sequence → PlainEntry
decided start q = record { start = start; phase = 0; seconds = 120; sequence = q }

-- two windows of one log, the second a minute later
abbrev pub two_windows : List PlainEntry
two_windows = decided 0 (from_place (in_june 6 16) 0) ∷ decided 60_000 (from_place (in_june 6 17) 0) ∷ []

-- two windows that differ where both have the millisecond
abbrev pub two_opinions : List PlainEntry
two_opinions = decided 0 (from_place (in_june 6 16) 0) ∷ decided 60_000 (from_place (in_june 9 5) 30) ∷ []

-- a window alone, and so many later ones behind it
abbrev pub with_later : ℕ → List PlainEntry
with_later n = decided 0 (from_place (in_june 6 16) 7) ∷ replicate n (decided 500_000 (from_place (in_june 7 0) 0))

-- a minute whose first second begins 250 milliseconds after its start
abbrev pub phased : PlainEntry
phased = record { start = 1000; phase = 250; seconds = 60; sequence = from_place (in_june 6 16) 0 }

-- a minute and three seconds, as they would be with a leap second at the end of June 2000
abbrev pub leaping : PlainEntry
leaping = record { start = 0; phase = 0; seconds = 63; sequence = record { first = at (on 2000 6 30) 23 59; second = 0; announced = true } }
