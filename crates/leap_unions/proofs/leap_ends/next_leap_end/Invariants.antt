use Rattle.std.proofs.Common.{◌*◌}
use Rattle.leap_unions.proofs.LeapLaws.{NoLeapEnd}
use Rattle.leap_unions.proofs.leap_ends.next_leap_end.Given as goal

abbrev pub invariant-loop-day : goal.invariant-loop-day
invariant-loop-day l = NoLeapEnd l.t (l.day * 1440)
