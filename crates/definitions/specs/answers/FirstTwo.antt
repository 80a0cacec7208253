-- The answer from the keys of the first two admitted sequences.
use Rattle.std.specs.Prelude.{ℕ, ◌≡◌, ◌<◌, ◌≤◌, ◌⊎◌, nat_lt, if◌then◌else◌, Option, Some, None}
use Rattle.signal_base.specs.declared.window.Window.{Window}
use Rattle.definitions.specs.declared.sequence.Sequence.{Sequence}
use Rattle.definitions.specs.declared.answer.Answer.{Answer}
use Rattle.definitions.specs.declared.answer.Answer.TheVariants.{Nothing, Decided, Undecided}
use Rattle.definitions.specs.sequences.Keys.{key_of, sequence_of, cost_of}
use Rattle.definitions.specs.sequences.Walks.{IsLegal}
use Rattle.definitions.specs.heard.Costs.{Costs, sequence_cost}
use Rattle.definitions.specs.answers.Answers.{IsAdmitted}

-- the answer where the second has this key
abbrev pub answer_after : ℕ → ℕ → Answer
answer_after first second =
    if nat_lt (cost_of first) (cost_of second)
    then Decided (cost_of first) (sequence_of first) (Some (cost_of second))
    else Undecided (cost_of first) (sequence_of first) (sequence_of second)

-- the answer where the first and the second have these keys, as far as there are any
abbrev pub answer_from : Option ℕ → Option ℕ → Answer
answer_from None second = Nothing
answer_from (Some first) None = Decided (cost_of first) (sequence_of first) None
answer_from (Some first) (Some second) = answer_after first second

-- the key of an admitted sequence
abbrev pub IsKey : (Sequence → Type 0) → (Sequence → ℕ) → ℕ → Type 0
IsKey admitted cost key = (q : Sequence) × admitted q × (key_of (cost q) q ≡ key)

-- the key of a sequence that a window admits, under costs and a ceiling
abbrev pub IsWindowKey : Window → Costs → ℕ → ℕ → Type 0
IsWindowKey window costs ceiling =
    IsKey (IsAdmitted (IsLegal window) (sequence_cost costs window) ceiling) (sequence_cost costs window)

-- the least of these numbers and the least of the others, as far as there are any
abbrev pub AreLeastTwo : (ℕ → Type 0) → Option ℕ → Option ℕ → Type 0
AreLeastTwo P None None = (n : ℕ) → ¬ (P n)
AreLeastTwo P None (Some l) = ⊥
AreLeastTwo P (Some k) None = P k × ((n : ℕ) → P n → n ≡ k)
AreLeastTwo P (Some k) (Some l) = P k × P l × (k < l) × ((n : ℕ) → P n → (n ≡ k) ⊎ (l ≤ n))
