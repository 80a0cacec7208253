-- The right answer, over what is admitted and what it costs as given.
use Rattle.std.specs.Prelude.{ℕ, ◌≡◌, ◌≢◌, ◌<◌, ◌≤◌, Option, MatchOption}
use Rattle.definitions.specs.declared.sequence.Sequence.{Sequence}
use Rattle.definitions.specs.declared.answer.Answer.{Answer}
use Rattle.definitions.specs.declared.answer.Answer.TheVariants.{Nothing, Decided, Undecided}
use Rattle.signal_base.specs.declared.window.Window.{Window}
use Rattle.definitions.specs.sequences.Walks.{IsLegal}
use Rattle.definitions.specs.sequences.Keys.{key_of}
use Rattle.definitions.specs.heard.Costs.{Costs, sequence_cost}

-- a sequence is admitted: it is legal, and doesn't cost more than the ceiling
abbrev pub IsAdmitted : (Sequence → Type 0) → (Sequence → ℕ) → ℕ → Sequence → Type 0
IsAdmitted legal cost ceiling q = legal q × (cost q ≤ ceiling)

-- some other admitted sequence costs n, and none of them less
pub record IsNext (admitted : Sequence → Type 0) (cost : Sequence → ℕ) (q : Sequence) (n : ℕ) : Type 0 where
  pub some : (r : Sequence) × admitted r × (r ≢ q) × (cost r ≡ n)
  pub least : (r : Sequence) → admitted r → r ≢ q → n ≤ cost r

-- it costs less than every other
pub record IsDecided (admitted : Sequence → Type 0) (cost : Sequence → ℕ) (q : Sequence) (next : Option ℕ) : Type 0 where
  pub is_admitted : admitted q
  pub cheapest : (r : Sequence) → admitted r → r ≢ q → cost q < cost r
  pub is_next : MatchOption next ((r : Sequence) → admitted r → r ≡ q) (IsNext admitted cost q)

-- they are the first two in order, and cost the same
pub record IsUndecided (admitted : Sequence → Type 0) (cost : Sequence → ℕ) (q r : Sequence) : Type 0 where
  pub are_admitted : admitted q × admitted r
  pub first : (s : Sequence) → admitted s → s ≢ q → key_of (cost q) q < key_of (cost s) s
  pub other : r ≢ q
  pub second : (s : Sequence) → admitted s → s ≢ q → s ≢ r → key_of (cost r) r < key_of (cost s) s
  pub tie : cost q ≡ cost r

-- this is the answer
abbrev pub IsAnswer : (Sequence → Type 0) → (Sequence → ℕ) → Answer → Type 0
IsAnswer admitted cost Nothing = (q : Sequence) → ¬ (admitted q)
IsAnswer admitted cost (Decided c q next) = IsDecided admitted cost q next × (c ≡ cost q)
IsAnswer admitted cost (Undecided c q r) = IsUndecided admitted cost q r × (c ≡ cost q)

-- the answer for a window, under costs and a ceiling
abbrev pub IsWindowAnswer : Window → Costs → ℕ → Answer → Type 0
IsWindowAnswer window costs ceiling answer =
    IsAnswer (IsAdmitted (IsLegal window) (sequence_cost costs window) ceiling) (sequence_cost costs window) answer
