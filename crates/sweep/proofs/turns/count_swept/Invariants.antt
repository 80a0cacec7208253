-- No more than the turns so far.
use Rattle.std.proofs.Common.{◌≤◌}
use Rattle.sweep.proofs.turns.count_swept.Given as goal

abbrev pub invariant-loop-earlier : goal.invariant-loop-earlier
invariant-loop-earlier l = l.count ≤ l.earlier
