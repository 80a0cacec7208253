-- Each is refused by what its words come to.
use Rattle.std.proofs.Common.{refl}
use Rattle.std.specs.Fmt.{digits}
use Rattle.formats.specs.WordValues.{number_of}
use Rattle.formats.specs.declared.option.OptionName.TheVariants.{Seconds}
use Rattle.formats.specs.declared.words.WordFault.TheVariants.{BadNumber, Usage}
use Rattle.judge_due.specs.JudgeDues.{Bad_words}
use Rattle.judge_due.proofs.examples.refused_words_of_a_judgement.Goals as goal

pub returns-clause-none : goal.returns-clause-none
returns-clause-none c = λ contents. Bad_words Usage refl refl

pub returns-clause-place : goal.returns-clause-place
returns-clause-place c = λ contents. Bad_words Usage refl refl

pub returns-clause-other : goal.returns-clause-other
unfolding digits number_of
returns-clause-other c = λ contents. Bad_words Usage refl refl

pub returns-clause-run : goal.returns-clause-run
returns-clause-run c = λ contents. Bad_words Usage refl refl

pub returns-clause-option : goal.returns-clause-option
returns-clause-option c = λ contents. Bad_words Usage refl refl

pub returns-clause-dash : goal.returns-clause-dash
returns-clause-dash c = λ contents. Bad_words Usage refl refl

pub returns-clause-seconds : goal.returns-clause-seconds
unfolding digits number_of
returns-clause-seconds c = λ contents. Bad_words (BadNumber Seconds) refl refl
