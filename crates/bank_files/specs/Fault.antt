-- Counts of faults: whole numbers that never fall, and stand still at the greatest u64.
use Rattle.std.specs.Prelude.{ℕ, ◌+◌, ◌-◌, ◌^◌, ◌<◌, ◌≤◌, ◌⊎◌, min}

-- the greatest that a count can be
abbrev pub greatest : ℕ
greatest = 2 ^ 64 - 1

-- one more, unless the count stands at its greatest
abbrev pub raised : ℕ → ℕ
raised count = min (count + 1) greatest

-- the count rose, or it stands at its greatest, where it can't rise
abbrev pub HasFault : ℕ → ℕ → Type 0
HasFault before after = (before < after) ⊎ (greatest ≤ after)
