-- How a telegram is laid: sets of symbols, one for each second, into which the bits of fields are put.
use Rattle.std.specs.Prelude.{ℕ, List, [], ◌∷◌, set}
use Rattle.definitions.specs.codes.Vocabulary.{digit_bit, only}

-- these sets, but each second of a field carries the symbol of its bit of a number
abbrev pub laid : (ℕ → ℕ) → List (ℕ × ℕ) → ℕ → List ℕ → List ℕ
laid symbol [] value sets = sets
laid symbol (w ∷ ws) value sets = laid symbol ws value (set sets w.0 (only (symbol (digit_bit value w.1))))

-- these sets, but those of some seconds anew
abbrev pub with_sets : (ℕ → ℕ) → List ℕ → List ℕ → List ℕ
with_sets set_of [] sets = sets
with_sets set_of (s ∷ ss) sets = with_sets set_of ss (set sets s (set_of s))
