-- Each is refused by what its words come to.
use Rattle.std.proofs.Common.{refl}
use Rattle.std.specs.Fmt.{digits}
use Rattle.formats.specs.WordValues.{number_of}
use Rattle.formats.specs.declared.option.OptionName.TheVariants.{Seconds}
use Rattle.formats.specs.declared.words.WordFault.TheVariants.{BadNumber, Usage}
use Rattle.sweep_due.specs.SweepRules.{Bad_words}
use Rattle.sweep_due.proofs.examples.refused_words_of_a_sweep.Goals as goal

pub returns-clause-none : goal.returns-clause-none
returns-clause-none c = λ contents. Bad_words Usage refl refl

pub returns-clause-place : goal.returns-clause-place
returns-clause-place c = λ contents. Bad_words Usage refl refl

pub returns-clause-other : goal.returns-clause-other
returns-clause-other c = λ contents. Bad_words Usage refl refl

pub returns-clause-beyond : goal.returns-clause-beyond
unfolding digits number_of
returns-clause-beyond c = λ contents. Bad_words Usage refl refl

pub returns-clause-seconds : goal.returns-clause-seconds
unfolding digits number_of
returns-clause-seconds c = λ contents. Bad_words (BadNumber Seconds) refl refl

pub returns-clause-certificate : goal.returns-clause-certificate
unfolding digits number_of
returns-clause-certificate c = λ contents. Bad_words (BadNumber Seconds) refl refl
