-- Each is refused by what its words come to.
use Rattle.std.proofs.Common.{refl}
use Rattle.std.specs.Fmt.{digits}
use Rattle.formats.specs.WordValues.{number_of}
use Rattle.formats.specs.declared.option.OptionName.TheVariants.{Seconds}
use Rattle.formats.specs.declared.words.WordFault.TheVariants.{BadNumber, EmptyRange, Usage}
use Rattle.formats.proofs.WordExampleLaws.{day_begins, day_ends}
use Rattle.due.specs.HeardRuns.{Bad_words}
use Rattle.due.proofs.heard_examples.words_that_are_no_hearing.Goals as goal

pub returns-clause-none : goal.returns-clause-none
returns-clause-none c = λ contents. Bad_words Usage refl refl

pub returns-clause-command : goal.returns-clause-command
returns-clause-command c = λ contents. Bad_words Usage refl refl

pub returns-clause-workers : goal.returns-clause-workers
returns-clause-workers c = λ contents. Bad_words Usage refl refl

pub returns-clause-certificate : goal.returns-clause-certificate
returns-clause-certificate c = λ contents. Bad_words Usage refl refl

pub returns-clause-seconds : goal.returns-clause-seconds
unfolding digits number_of
returns-clause-seconds c = λ contents. Bad_words (BadNumber Seconds) refl refl

pub returns-clause-empty : goal.returns-clause-empty
returns-clause-empty c = λ contents. Bad_words EmptyRange (rw (day_begins, day_ends) refl) refl
