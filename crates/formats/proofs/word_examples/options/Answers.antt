use Rattle.std.proofs.Common.{refl, arith}
use Rattle.std.specs.Fmt.{digits}
use Rattle.formats.specs.WordValues.{number_of}
use Rattle.formats.proofs.WordExampleLaws.{day_begins, day_ends, leap_second}
use Rattle.formats.proofs.WordLimitLaws.{msf}
use Rattle.formats.proofs.word_examples.options.Goals as goal

pub returns-clause-decode : goal.returns-clause-decode
unfolding digits number_of
returns-clause-decode c = rw (day_begins, day_ends) refl

pub returns-clause-check : goal.returns-clause-check
unfolding digits number_of
returns-clause-check c = rw day_begins refl

pub returns-clause-feed : goal.returns-clause-feed
unfolding digits number_of
returns-clause-feed c = rw day_begins refl

pub returns-clause-encode : goal.returns-clause-encode
unfolding digits number_of
returns-clause-encode c = rw (leap_second, msf 8_942_399 (omega arith)) refl
