-- The century's last day is known; the others are walked to.
use Rattle.std.proofs.Common.{ap}
use Rattle.definitions.specs.declared.day.Day.{Day}
use Rattle.definitions.specs.time.Calendar.{fields_on}
use Rattle.definitions.proofs.LastDay.{last_day}
use Rattle.formats.specs.Examples.{signs}
use Rattle.formats.specs.Frames.{elements_on}
use Rattle.formats.proofs.examples.frames.elements_told_apart.Goals as goal

pub returns-clause-century_end : goal.returns-clause-century_end
returns-clause-century_end c = ap (λ (d : Day). signs (elements_on (fields_on d 52_595_999) 60)) last_day
