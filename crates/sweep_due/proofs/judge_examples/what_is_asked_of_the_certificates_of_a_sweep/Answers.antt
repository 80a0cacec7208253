-- The orders that the words give.
use Rattle.std.proofs.Common.{refl}
use Rattle.std.specs.Fmt.{digits}
use Rattle.formats.specs.WordValues.{number_of}
use Rattle.sweep_due.proofs.judge_examples.what_is_asked_of_the_certificates_of_a_sweep.Goals as goal

pub returns-clause-sweep : goal.returns-clause-sweep
unfolding digits number_of
returns-clause-sweep c = refl

pub returns-clause-judge : goal.returns-clause-judge
unfolding digits number_of
returns-clause-judge c = refl
