-- Line by line: skipped, or one more record.
use Rattle.std.proofs.Common.{codes, inl, inr, refl, arith}
use Rattle.std.specs.Fmt.{digits}
use Rattle.definitions.specs.declared.level.Level.TheVariants.{High, Low, Unknown}
use Rattle.formats.proofs.examples.logs.good_logs.Goals as goal

pub returns-clause-crlf : goal.returns-clause-crlf
unfolding digits
returns-clause-crlf c = inr ((5, High), (omega arith, refl), tt, omega arith, inr ((7, Low), (omega arith, refl), omega arith, omega arith, refl))

pub returns-clause-comment : goal.returns-clause-comment
unfolding digits
returns-clause-comment c = inl (inl refl, inl (inr (codes " x", refl), inr ((999_999_999_999, Unknown), (omega arith, refl), tt, omega arith, refl)))

pub returns-clause-empty : goal.returns-clause-empty
returns-clause-empty c = refl
