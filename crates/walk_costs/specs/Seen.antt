-- What the dates of a span tell, one date after the other: what was told first in each second, and what was told else, which is the
-- same where nothing else was told yet.
use Rattle.std.specs.Prelude.{ℕ, ◌==◌, bit_or, if◌then◌else◌, List, map, slice_index}
use Rattle.std.specs.List.{range_with_len}
use Rattle.slot_columns.specs.Rows.{index_of}

abbrev pub first_set : ℕ → ℕ → ℕ
first_set one told = if one == 0 then told else one

abbrev pub other_set : ℕ → ℕ → ℕ → ℕ
other_set one other told =
    if bit_or one told == one then first_set other one else (if other == one then told else bit_or other told)

-- of each second, by the sets of one date more. A second that isn't scored adds none
abbrev pub first_at : List ℕ → List ℕ → ℕ → ℕ
first_at one told s = first_set (slice_index one s) (index_of (slice_index told s))

abbrev pub other_at : List ℕ → List ℕ → List ℕ → ℕ → ℕ
other_at one other told s = other_set (slice_index one s) (slice_index other s) (index_of (slice_index told s))

unfoldable pub first_told : List ℕ → List ℕ → List ℕ
first_told one told = map (first_at one told) (range_with_len 0 60)

unfoldable pub told_else : List ℕ → List ℕ → List ℕ → List ℕ
told_else one other told = map (other_at one other told) (range_with_len 0 60)
