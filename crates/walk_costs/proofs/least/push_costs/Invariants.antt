use Rattle.slot_columns.specs.Layered.{AreAdded}
use Rattle.walk_costs.specs.Leasts.{AreBegins, IsLeastBy}
use Rattle.walk_costs.proofs.least.push_costs.Given as goal

abbrev pub invariant-loop-k : goal.invariant-loop-k
invariant-loop-k l = record {
  begins : AreBegins l.walks l.p l.count l.reached l.begins;
  added : AreAdded 0 (IsLeastBy l.walks l.kinds l.splits l.rows l.p l.count l.reached) l.fn.costs.items l.costs.items l.k;
}
