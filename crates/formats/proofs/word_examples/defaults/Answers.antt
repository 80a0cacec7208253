use Rattle.std.proofs.Common.{refl, arith}
use Rattle.formats.proofs.WordExampleLaws.{leap_day}
use Rattle.formats.proofs.WordLimitLaws.{wwvb}
use Rattle.formats.proofs.word_examples.defaults.Goals as goal

pub returns-clause-encode : goal.returns-clause-encode
returns-clause-encode c = rw (leap_day, wwvb 12_708_754 (omega arith)) refl
