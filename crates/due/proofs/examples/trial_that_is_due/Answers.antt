-- The order that the words give.
use Rattle.std.proofs.Common.{refl}
use Rattle.std.specs.Fmt.{digits}
use Rattle.formats.specs.WordValues.{number_of}
use Rattle.due.specs.Rules.{Tried}
use Rattle.due.proofs.examples.trial_that_is_due.Goals as goal

pub returns : goal.returns
unfolding digits number_of
returns c = λ contents a is. Tried 5 2 refl a is refl
