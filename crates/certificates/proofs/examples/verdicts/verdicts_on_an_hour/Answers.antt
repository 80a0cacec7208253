-- Line by line.
use Rattle.std.proofs.Common.{◌≡◌, ℕ, List, [], ◌∷◌, Option, Some, inl, inr, refl, ap, arith}
use Rattle.definitions.specs.declared.block.Block.{Block}
use Rattle.definitions.specs.declared.block.Span.TheVariants.{Minute}
use Rattle.definitions.specs.answers.Blocks.{blocks}
use Rattle.definitions.specs.examples.Sequences.{block_of, costs_by_symbol}
use Rattle.certificates.specs.Texts.{number_in}
use Rattle.certificates.specs.Examples.{hour, two_minutes}
use Rattle.certificates.proofs.HourLaws.{all_begun, first_minute}
use Rattle.certificates.proofs.examples.verdicts.verdicts_on_an_hour.Goals as goal

pub returns-clause-good : goal.returns-clause-good
unfolding blocks
returns-clause-good c limit =
    inr (
      record { due_is = refl; bound = c.bound_of_two_minutes.ensures.hour; above = tt },
      inr (
        record { due_is = refl; bound = first_minute; above = tt },
        inr (record { due_is = refl; bound = c.bound_of_two_minutes.ensures.minute; above = tt }, inl (all_begun, refl)),
      ),
    )

pub returns-clause-not_above : goal.returns-clause-not_above
returns-clause-not_above c = inl (inr (inr (refl, c.bound_of_two_minutes.ensures.hour, (λ above. omega (arith, above)), refl)))

other_bound : ◌≡◌ {A = Option ℕ} (Some 111) (Some 112) → ⊥
other_bound e = omega (arith, ap number_in e)

pub returns-clause-wrong_bound : goal.returns-clause-wrong_bound
returns-clause-wrong_bound c limit =
    inl (inr (inl (refl, (λ is. other_bound (c.bound_is_one.ensures.bound costs_by_symbol two_minutes hour (Some 111) (Some 112) is c.bound_of_two_minutes.ensures.hour)), refl)))

other_minute : block_of Minute 701 702 ≡ block_of Minute 700 701 → ⊥
other_minute e = omega (arith, ap (λ (b : Block). b.lo) e)

pub returns-clause-child_left_out : goal.returns-clause-child_left_out
unfolding blocks
returns-clause-child_left_out c limit =
    inr (record { due_is = refl; bound = c.bound_of_two_minutes.ensures.hour; above = tt }, inl (inl (other_minute, refl)))

one_due : (b : Block) (bs : List Block) → (b ∷ bs) ≡ [] → ⊥
one_due b bs e = absurd cc

pub returns-clause-too_early : goal.returns-clause-too_early
unfolding blocks
returns-clause-too_early c limit =
    inr (
      record { due_is = refl; bound = c.bound_of_two_minutes.ensures.hour; above = tt },
      inr (
        record { due_is = refl; bound = first_minute; above = tt },
        inr ((λ over. one_due (block_of Minute 701 702) [] over.0), refl),
      ),
    )

pub returns-clause-begun_again : goal.returns-clause-begun_again
returns-clause-begun_again c limit = inl (inl ((λ is_due. is_due.1 is_due.0), refl))
