-- Each is refused by what its words come to.
use Rattle.std.proofs.Common.{refl}
use Rattle.std.specs.Fmt.{digits}
use Rattle.formats.specs.WordValues.{number_of}
use Rattle.formats.specs.declared.option.OptionName.TheVariants.{Readers}
use Rattle.formats.specs.declared.words.WordFault.TheVariants.{BadNumber, Usage}
use Rattle.board_due.specs.BoardRules.{Bad_words}
use Rattle.board_due.proofs.examples.refused_words_of_board.Goals as goal

pub returns-clause-place : goal.returns-clause-place
returns-clause-place c = λ contents. Bad_words Usage refl refl

pub returns-clause-other : goal.returns-clause-other
unfolding digits number_of
returns-clause-other c = λ contents. Bad_words Usage refl refl

pub returns-clause-readers : goal.returns-clause-readers
unfolding digits number_of
returns-clause-readers c = λ contents. Bad_words (BadNumber Readers) refl refl
