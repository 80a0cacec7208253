-- The hours of a range.
use Rattle.std.proofs.Common.{refl, arith}
use Rattle.definitions.proofs.examples.blocks.blocks_of_a_range.Goals as goal

pub returns-clause-first : goal.returns-clause-first
returns-clause-first c = record { second = omega arith; not_empty = omega arith; not_before = omega arith; begins = λ t from before. omega (arith, from, before); ends = refl }

pub returns-clause-middle : goal.returns-clause-middle
returns-clause-middle c = record { second = omega arith; not_empty = omega arith; not_before = omega arith; begins = λ t from before. omega (arith, before); ends = refl }

pub returns-clause-last : goal.returns-clause-last
returns-clause-last c = record { second = omega arith; not_empty = omega arith; not_before = omega arith; begins = λ t from before. omega (arith, before); ends = refl }

pub returns-clause-late : goal.returns-clause-late
returns-clause-late c = λ is. omega (arith, is.begins 720 (omega arith) (omega arith))

pub returns-clause-short : goal.returns-clause-short
returns-clause-short c = λ is. omega (arith, is.ends)

pub returns-clause-long : goal.returns-clause-long
returns-clause-long c = λ is. omega (arith, is.ends)

pub returns-clause-outside : goal.returns-clause-outside
returns-clause-outside c = λ is. omega (arith, is.not_before)

pub returns-clause-second : goal.returns-clause-second
returns-clause-second c = λ is. omega (arith, is.second)
