use Rattle.formats.proofs.WordNumberLaws.{number_of-text, number_of-decimal}
use Rattle.formats.proofs.word_law.numbers_have_one_text.Goals as goal

pub returns : goal.returns
returns c = record { text = number_of-text; number = number_of-decimal }
