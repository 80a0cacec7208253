-- Each number is within its range, or one is beyond it.
use Rattle.std.proofs.Common.{codes, Some, refl, arith}
use Rattle.std.specs.Fmt.{digits}
use Rattle.definitions.specs.declared.block.Span.TheVariants.{Day, Minute}
use Rattle.definitions.specs.examples.Sequences.{block_of}
use Rattle.formats.specs.Bytes.{line_feed}
use Rattle.certificates.specs.declared.certificate.Kind.TheVariants.{Pruned}
use Rattle.certificates.specs.Examples.{line_of}
use Rattle.certificates.proofs.ExampleLaws.{bad_step}
use Rattle.certificates.proofs.FieldLaws.{avoids_by}
use Rattle.certificates.proofs.examples.texts.steps_at_their_limits.Goals as goal

pub returns-clause-last_second : goal.returns-clause-last_second
returns-clause-last_second c = record { second = omega arith; not_empty = omega arith; century = omega arith; shape = omega arith }

pub returns-clause-last_minute : goal.returns-clause-last_minute
returns-clause-last_minute c = record { second = omega arith; not_empty = omega arith; century = omega arith; shape = omega arith }

pub returns-clause-second : goal.returns-clause-second
unfolding digits
returns-clause-second c rest =
    bad_step (line_of Pruned (record (block_of Day 700 1_440) { second = 61 }) (Some 0)) rest
    (record { second = omega arith; lo = omega arith; hi = omega arith; bound = omega arith })
    (λ is. omega (arith, is.second)) (omega arith) (avoids_by line_feed (codes "P D 0 61 700 1440 0") refl)

pub returns-clause-nothing : goal.returns-clause-nothing
unfolding digits
returns-clause-nothing c rest =
    bad_step (line_of Pruned (block_of Day 700 700) (Some 0)) rest
    (record { second = omega arith; lo = omega arith; hi = omega arith; bound = omega arith })
    (λ is. omega (arith, is.not_empty)) (omega arith) (avoids_by line_feed (codes "P D 0 0 700 700 0") refl)

pub returns-clause-minute : goal.returns-clause-minute
unfolding digits
returns-clause-minute c rest =
    bad_step (line_of Pruned (block_of Minute 52_595_999 52_596_001) (Some 0)) rest
    (record { second = omega arith; lo = omega arith; hi = omega arith; bound = omega arith })
    (λ is. omega (arith, is.century)) (omega arith) (avoids_by line_feed (codes "P M 0 0 52595999 52596001 0") refl)
