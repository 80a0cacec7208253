use Rattle.formats.proofs.WordLimitLaws.{dcf77, msf, wwvb, jjy}
use Rattle.formats.proofs.word_law.last_minutes_suit.Goals as goal

pub returns : goal.returns
returns c = record { dcf77 = dcf77; msf = msf; wwvb = wwvb; jjy = jjy }
