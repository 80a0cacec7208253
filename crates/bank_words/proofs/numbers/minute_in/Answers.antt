use Rattle.std.proofs.Common.{sym}
use Rattle.formats.proofs.WordMinuteLaws.{minute_of-none}
use Rattle.bank_words.proofs.numbers.minute_in.Goals as goal

pub returns-in-None-clause-value : goal.returns-in-None-clause-value
returns-in-None-clause-value c = sym (minute_of-none c.args.text.now c.in-None.ensures.none)
