use Rattle.std.proofs.Common.{◌-◌, ◌≤◌}
use Rattle.leap_unions.specs.Pieces.{AreUnionsFrom}
use Rattle.leap_unions.proofs.pieces.Walks.unions.Given as goal

abbrev pub invariant-loop-t : goal.invariant-loop-t
invariant-loop-t l = record {
  from : l.lo ≤ l.t;
  within : l.t ≤ l.hi;
  unions : AreUnionsFrom l.self.window.now l.self.second l.self.station l.lo l.t l.sets;
}

abbrev pub decreases-loop-t : goal.decreases-loop-t
decreases-loop-t l = l.hi - l.t
