-- Sequences, windows and blocks for examples.
use Rattle.std.specs.Prelude.{ℕ, ◌≡◌, ◌⊎◌, ◌==◌, true, false, if◌then◌else◌, List, [], ◌∷◌, map}
use Rattle.signal_base.specs.declared.window.Window.{Window}
use Rattle.definitions.specs.declared.sequence.Sequence.{Sequence}
use Rattle.definitions.specs.declared.block.Block.{Block}
use Rattle.definitions.specs.declared.block.Span.{Span}
use Rattle.definitions.specs.sequences.Walks.{place_at}
use Rattle.definitions.specs.heard.Costs.{Costs}
use Rattle.definitions.specs.examples.Dates.{at, on}

-- the sequence from a second of a minute on, without a leap second
abbrev pub from_place : ℕ → ℕ → Sequence
from_place first second = record { first = first; second = second; announced = false }

-- the sequence is one of two, from the first second of a minute on and from the second after
abbrev pub IsEither : Sequence → Type 0
IsEither q = (q ≡ from_place 720 0) ⊎ (q ≡ from_place 720 1)

-- a walk from second 50 of 2000-06-30T23:59Z on, as it would be with a leap second
abbrev pub leap_walk : List (ℕ × ℕ)
leap_walk = map (place_at (record { first = at (on 2000 6 30) 23 59; second = 50; announced = true })) (0 ∷ 9 ∷ 10 ∷ 11 ∷ 71 ∷ [])

-- from the leap second at the end of June 2000 on
abbrev pub leap_second_of_june : Sequence
leap_second_of_june = record { first = at (on 2000 6 30) 23 59; second = 60; announced = true }

-- 60 seconds of some stations, from minute lo up to, and without, hi
abbrev pub window_of : ℕ → ℕ → ℕ → Window
window_of mask lo hi = record { stations = record { mask = mask }; start = 0; phase = 0; seconds = 60; from = lo; to = hi }

-- the first minute of June 2000, as it would be with a leap second at the end of the month
abbrev pub june_announced : Sequence
june_announced = record { first = at (on 2000 6 1) 0 0; second = 0; announced = true }

-- from a second of 2000-06-30T22:59Z on, as it would be with a leap second at the end of the day
abbrev pub june_warned : ℕ → Sequence
june_warned second = record { first = at (on 2000 6 30) 22 59; second = second; announced = true }

-- the block of a span from minute lo up to, and without, hi, from the first second on
abbrev pub block_of : Span → ℕ → ℕ → Block
block_of span lo hi = record { announced = false; second = 0; span = span; lo = lo; hi = hi }

-- the same block, its sequences announcing a leap second
abbrev pub announced_block_of : Span → ℕ → ℕ → Block
announced_block_of span lo hi = record { announced = true; second = 0; span = span; lo = lo; hi = hi }

-- costs that are the same in every slot: 1 of a 0, 3 of a 1, 7 of any other symbol
abbrev pub costs_by_symbol : Costs
costs_by_symbol station k x = if x == 0 then 1 else if x == 1 then 3 else 7
