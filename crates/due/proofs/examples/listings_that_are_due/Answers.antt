-- Each minute is one that its station can send.
use Rattle.std.proofs.Common.{false, true, refl, arith}
use Rattle.std.specs.Fmt.{digits}
use Rattle.signal_base.specs.declared.station.Station.TheVariants.{Msf, Wwvb}
use Rattle.formats.specs.WordValues.{number_of}
use Rattle.formats.proofs.WordExampleLaws.{leap_day, leap_second}
use Rattle.formats.proofs.WordLimitLaws.{msf, wwvb}
use Rattle.due.specs.Rules.{Listed}
use Rattle.due.proofs.examples.listings_that_are_due.Goals as goal

pub returns-clause-plain : goal.returns-clause-plain
returns-clause-plain c = λ contents. Listed Wwvb 12_708_754 false (rw (leap_day, wwvb 12_708_754 (omega arith)) refl) refl

pub returns-clause-leap : goal.returns-clause-leap
unfolding digits number_of
returns-clause-leap c = λ contents. Listed Msf 8_942_399 true (rw (leap_second, msf 8_942_399 (omega arith)) refl) refl
