-- Block by block, by the bounds of the hour and its minutes.
use Rattle.std.proofs.Common.{◌≡◌, ℕ, Option, Some, refl, ap, arith}
use Rattle.definitions.specs.answers.Blocks.{blocks}
use Rattle.definitions.specs.examples.Sequences.{costs_by_symbol}
use Rattle.certificates.specs.Texts.{number_in}
use Rattle.certificates.specs.Examples.{hour, two_minutes}
use Rattle.certificates.proofs.HourLaws.{walks_opened}
use Rattle.certificates.proofs.examples.verdicts.walks_of_an_hour.Goals as goal

pub returns-clause-opened : goal.returns-clause-opened
returns-clause-opened c limit = walks_opened limit c.bound_of_two_minutes.ensures.hour c.bound_of_two_minutes.ensures.minute

pub returns-clause-pruned : goal.returns-clause-pruned
returns-clause-pruned c = (refl, record { shape = omega arith; bound = c.bound_of_two_minutes.ensures.hour; above = omega arith }, tt)

pub returns-clause-at_the_limit : goal.returns-clause-at_the_limit
returns-clause-at_the_limit c = λ walks. omega (arith, walks.1.above)

pub returns-clause-child_left_out : goal.returns-clause-child_left_out
unfolding blocks
returns-clause-child_left_out c limit = λ walks. absurd walks.2.2

some_same : ◌≡◌ {A = Option ℕ} (Some 113) (Some 112) → ⊥
some_same e = omega (arith, ap number_in e)

pub returns-clause-other_bound : goal.returns-clause-other_bound
returns-clause-other_bound c limit = λ walks.
    some_same (c.bound_is_one.ensures.bound costs_by_symbol two_minutes hour (Some 113) (Some 112) walks.1.bound c.bound_of_two_minutes.ensures.hour)

pub returns-clause-empty : goal.returns-clause-empty
returns-clause-empty c limit = (refl, record { shape = refl; bound = c.no_bound_beyond_the_century.ensures.hour; above = tt }, tt)
