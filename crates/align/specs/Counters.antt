-- Counters of offsets: how many start edges have each offset from a whole second, from 0 to 999 ms.
use Rattle.std.specs.Prelude.{ℕ, ◌≡◌, ◌+◌, ◌*◌, ◌≤◌, List, slice_index}
use Rattle.definitions.specs.heard.Costs.{sum_below}

-- the sum of g over the offsets that are counted
abbrev pub tally : List ℕ → (ℕ → ℕ) → ℕ
tally counts g = sum_below 1000 (λ o. slice_index counts o * g o)

-- each sum over the offsets is so much more
abbrev pub CountsMore : List ℕ → List ℕ → ((ℕ → ℕ) → ℕ) → Type 0
CountsMore old new more = (g : ℕ → ℕ) → tally new g ≡ tally old g + more g

-- no offset is counted more often
abbrev pub AreAtMost : ℕ → List ℕ → Type 0
AreAtMost n counts = (o : ℕ) → slice_index counts o ≤ n
