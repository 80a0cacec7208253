use Rattle.formats.proofs.WordMinuteLaws.{minute_of-text, minute_of-minute}
use Rattle.formats.proofs.word_law.minutes_have_one_text.Goals as goal

pub returns : goal.returns
returns c = record { text = minute_of-text; minute = minute_of-minute }
