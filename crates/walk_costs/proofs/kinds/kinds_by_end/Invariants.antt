use Rattle.std.proofs.Common.{◌*◌}
use Rattle.walk_costs.specs.Kinds.{AreKindsOf}
use Rattle.walk_costs.proofs.kinds.kinds_by_end.Given as goal

abbrev pub invariant-loop-i : goal.invariant-loop-i
invariant-loop-i l = record { kinds : AreKindsOf l.parts l.fn.station l.across l.all.items l.places.items (2 * l.i) }
