-- The order of sequences as one number: the key of a sequence and its cost.
use Rattle.std.specs.Prelude.{ℕ, ◌+◌, ◌*◌, ◌-◌, ◌/◌, ◌%◌, ◌^◌, nat_le, if◌then◌else◌}
use Rattle.definitions.specs.declared.sequence.Sequence.{Sequence}
use Rattle.definitions.specs.time.Calendar.{century_minutes}

-- Sequences of one cost are ordered: first those that aren't announced, then by the first second, then by the
-- first minute.
abbrev pub index_of : Sequence → ℕ
index_of q = ((if q.announced then 61 else 0) + q.second) * century_minutes + q.first

-- above every index
abbrev pub index_end : ℕ
index_end = 122 * century_minutes

-- by cost, then by index
abbrev pub key_of : ℕ → Sequence → ℕ
key_of cost q = cost * 2 ^ 33 + index_of q

-- not below the key of any sequence that costs at most the ceiling
abbrev pub ceiling_key : ℕ → ℕ
ceiling_key ceiling = ceiling * 2 ^ 33 + (2 ^ 33 - 1)

-- the sequence of an index
abbrev pub sequence_at : ℕ → Sequence
sequence_at index =
    record { first = index % century_minutes; second = index / century_minutes % 61; announced = nat_le 61 (index / century_minutes) }

-- what a key was made of
abbrev pub sequence_of : ℕ → Sequence
sequence_of key = sequence_at (key % 2 ^ 33)

abbrev pub cost_of : ℕ → ℕ
cost_of key = key / 2 ^ 33
