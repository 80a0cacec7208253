-- Each number, and each two of one asker.
use Rattle.std.proofs.Common.{◌≡◌, ℕ, zero, suc, ◌%◌, ◌<◌, ◌≤◌, [], ◌∷◌, get_or, refl, arith}
use Rattle.board_due.proofs.examples.numbers_of_entries.Goals as goal

most : (n : ℕ) → n < 2 → get_or (2 ∷ 1 ∷ []) n 0 ≤ 2
most zero h = omega arith
most (suc zero) h = omega arith
most (suc (suc n)) h = absurd (omega (arith, h))

rise : (n m : ℕ) → n ≤ m → m < 2 → n % 2 ≡ m % 2 → get_or (2 ∷ 1 ∷ []) n 0 ≤ get_or (2 ∷ 1 ∷ []) m 0
rise zero zero le h same = omega arith
rise zero (suc zero) le h same = absurd (omega (arith, same))
rise (suc zero) (suc zero) le h same = omega arith
rise (suc n) zero le h same = absurd (omega (arith, le))
rise (suc (suc n)) (suc zero) le h same = absurd (omega (arith, le))
rise n (suc (suc m)) le h same = absurd (omega (arith, h))

pub returns-clause-two : goal.returns-clause-two
returns-clause-two c = record { each = refl; most = most; rise = rise }

pub returns-clause-falls : goal.returns-clause-falls
returns-clause-falls c = λ are. omega (arith, are.rise 0 1 (omega arith) (omega arith) refl)

pub returns-clause-above : goal.returns-clause-above
returns-clause-above c = λ are. omega (arith, are.most 0 (omega arith))

pub returns-clause-fewer : goal.returns-clause-fewer
returns-clause-fewer c = λ are. omega (arith, are.each)
