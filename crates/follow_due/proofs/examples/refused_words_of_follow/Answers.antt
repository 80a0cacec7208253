-- Each is refused by what its words come to.
use Rattle.std.proofs.Common.{refl}
use Rattle.std.specs.Fmt.{digits}
use Rattle.formats.specs.WordValues.{number_of}
use Rattle.formats.specs.declared.option.OptionName.TheVariants.{Count, Step}
use Rattle.formats.specs.declared.words.WordFault.TheVariants.{BadNumber, Usage}
use Rattle.follow_due.specs.FollowRules.{Bad_words}
use Rattle.follow_due.proofs.examples.refused_words_of_follow.Goals as goal

pub returns-clause-none : goal.returns-clause-none
returns-clause-none c = λ contents. Bad_words Usage refl refl

pub returns-clause-place : goal.returns-clause-place
returns-clause-place c = λ contents. Bad_words Usage refl refl

pub returns-clause-other : goal.returns-clause-other
returns-clause-other c = λ contents. Bad_words Usage refl refl

pub returns-clause-beyond : goal.returns-clause-beyond
unfolding digits number_of
returns-clause-beyond c = λ contents. Bad_words Usage refl refl

pub returns-clause-step : goal.returns-clause-step
unfolding digits number_of
returns-clause-step c = λ contents. Bad_words (BadNumber Step) refl refl

pub returns-clause-count : goal.returns-clause-count
unfolding digits number_of
returns-clause-count c = λ contents. Bad_words (BadNumber Count) refl refl
