-- Leap years show.
use Rattle.definitions.proofs.LeapLaws.{leap_years_show}
use Rattle.definitions.proofs.leaps.leap_years_show.Goals as goal

pub returns : goal.returns
returns c = leap_years_show
