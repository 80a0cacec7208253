-- Which keys are the least.
use Rattle.std.proofs.Common.{◌≡◌, ℕ, Some, None, inl, inr, refl}
use Rattle.certificates.proofs.examples.verdicts.limits_that_keys_name.Goals as goal

pub returns-clause-second : goal.returns-clause-second
returns-clause-second c = refl

pub returns-clause-none : goal.returns-clause-none
returns-clause-none c = refl

pub returns-clause-above_the_ceiling : goal.returns-clause-above_the_ceiling
returns-clause-above_the_ceiling c = refl

pub returns-clause-two : goal.returns-clause-two
returns-clause-two c = refl

pub returns-clause-under_the_ceiling : goal.returns-clause-under_the_ceiling
returns-clause-under_the_ceiling c = refl

not_named : (n : ℕ) → None ≡ Some n → ⊥
not_named n e = absurd cc

pub returns-clause-first_wrong : goal.returns-clause-first_wrong
returns-clause-first_wrong c = inl (not_named 7, refl)

named : (n : ℕ) → Some n ≡ None → ⊥
named n e = absurd cc

pub returns-clause-second_wrong : goal.returns-clause-second_wrong
returns-clause-second_wrong c = inr (inl (refl, named 8, refl))
