-- Leap seconds end half years.
use Rattle.definitions.proofs.LeapLaws.{leap_ends_lie_before_half_years}
use Rattle.definitions.proofs.leaps.leap_seconds_end_half_years.Goals as goal

pub returns : goal.returns
returns c = leap_ends_lie_before_half_years
