use Rattle.std.proofs.Common.{◌≡◌, ◌<◌, ℕ}
use Rattle.definitions.specs.time.Calendar.{day_at}
use Rattle.civil.proofs.Civil.day_number.Given as goal

abbrev pub invariant-loop-n : goal.invariant-loop-n
invariant-loop-n l =
    (k : ℕ) → k < l.n → (day_at k).year ≡ l.year → (day_at k).month ≡ l.month → (day_at k).day ≡ l.day → ⊥
