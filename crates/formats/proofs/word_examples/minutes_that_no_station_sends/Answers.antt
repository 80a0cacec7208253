use Rattle.std.proofs.Common.{refl, arith}
use Rattle.formats.proofs.WordExampleLaws.{afternoon, late_evening}
use Rattle.formats.proofs.WordLimitLaws.{dcf77, jjy}
use Rattle.formats.proofs.word_examples.minutes_that_no_station_sends.Goals as goal

pub returns-clause-dcf77 : goal.returns-clause-dcf77
returns-clause-dcf77 c = rw (late_evening, dcf77 52_595_939 (omega arith)) refl

pub returns-clause-jjy : goal.returns-clause-jjy
returns-clause-jjy c = rw (afternoon, jjy 52_595_460 (omega arith)) refl
