use Rattle.std.proofs.Common.{refl, arith}
use Rattle.std.specs.Fmt.{digits}
use Rattle.formats.specs.WordValues.{number_of}
use Rattle.formats.proofs.WordExampleLaws.{day_begins, day_ends, leap_second, no_minute}
use Rattle.formats.proofs.WordLimitLaws.{msf}
use Rattle.formats.proofs.word_examples.bad_values.Goals as goal

pub returns-clause-minute : goal.returns-clause-minute
returns-clause-minute c = rw no_minute refl

pub returns-clause-leap : goal.returns-clause-leap
unfolding digits number_of
returns-clause-leap c = rw (leap_second, msf 8_942_399 (omega arith)) refl

pub returns-clause-from : goal.returns-clause-from
returns-clause-from c = rw no_minute refl

pub returns-clause-to : goal.returns-clause-to
returns-clause-to c = rw no_minute refl

pub returns-clause-readers : goal.returns-clause-readers
unfolding digits number_of
returns-clause-readers c = rw (day_begins, day_ends) refl

pub returns-clause-empty : goal.returns-clause-empty
returns-clause-empty c = rw (day_begins, day_ends) refl
