use Rattle.std.proofs.Common.{◌≡◌, drop}
use Rattle.follow_due.specs.FollowDues.{all_decided}
use Rattle.follow_due.proofs.follow_due.all_decided.Given as goal

abbrev pub invariant-loop-i : goal.invariant-loop-i
invariant-loop-i l = all_decided (drop l.i l.reports) ≡ all_decided l.reports
