-- By what is due first, and by the year's bound, which is 112.
use Rattle.std.proofs.Common.{◌≡◌, ℕ, inl, inr, [], Option, Some, refl, ap, arith}
use Rattle.std.specs.Fmt.{digits}
use Rattle.definitions.specs.answers.Blocks.{blocks}
use Rattle.definitions.specs.time.Calendar.{day_at}
use Rattle.definitions.specs.examples.Sequences.{costs_by_symbol}
use Rattle.formats.specs.Refusals.CertificateFault.{NotAbove, Uncovered, WrongBound}
use Rattle.certificates.specs.declared.certificate.Kind.TheVariants.{Opened, Pruned}
use Rattle.certificates.specs.declared.verdict.Verdict.TheVariants as found
use Rattle.certificates.specs.Texts.{number_in}
use Rattle.certificates.specs.Verdicts.{IsDue}
use Rattle.certificates.specs.Examples.{hour, line_of, two_minutes, year}
use Rattle.certificates.proofs.YearLaws.{hour_is_not_due, told_of_one, year_bound}
use Rattle.certificates.proofs.examples.faults.first_steps_that_are_wrong.Goals as goal

year_is_due : IsDue two_minutes [] [] year
unfolding blocks day_at
year_is_due = (inl refl, λ begun. begun)

other_bound : ◌≡◌ {A = Option ℕ} (Some 111) (Some 112) → ⊥
other_bound e = omega (arith, ap number_in e)

pub returns-clause-uncovered : goal.returns-clause-uncovered
unfolding digits
returns-clause-uncovered c =
    told_of_one (line_of Opened hour (Some 111)) (found.Uncovered 1) (Uncovered 1)
    (record { second = omega arith; not_empty = omega arith; century = omega arith; shape = ((λ e. absurd cc), omega arith) })
    (omega arith) (inl (hour_is_not_due, refl)) refl

pub returns-clause-wrong_bound : goal.returns-clause-wrong_bound
unfolding digits
returns-clause-wrong_bound c =
    told_of_one (line_of Pruned year (Some 111)) (found.WrongBound 1) (WrongBound 1)
    (record { second = omega arith; not_empty = omega arith; century = omega arith; shape = omega arith }) (omega arith)
    (inr (inl (
      year_is_due,
      (λ is. other_bound (c.bound_is_one.ensures.bound costs_by_symbol two_minutes year (Some 111) (Some 112) is (year_bound 112 c.bound_of_two_minutes.ensures.hour))),
      refl,
    ))) refl

pub returns-clause-not_above : goal.returns-clause-not_above
unfolding digits
returns-clause-not_above c =
    told_of_one (line_of Pruned year (Some 112)) (found.NotAbove 1) (NotAbove 1)
    (record { second = omega arith; not_empty = omega arith; century = omega arith; shape = omega arith }) (omega arith)
    (inr (inr (year_is_due, year_bound 112 c.bound_of_two_minutes.ensures.hour, (λ above. omega (arith, above)), refl))) refl
