use Rattle.std.proofs.Common.{[], length}
use Rattle.slot_columns.specs.Layered.{AreGroups}
use Rattle.walk_costs.specs.Leasts.{IsLeastOf, IsThirdRow}
use Rattle.walk_costs.proofs.least.least_costs.Given as goal

abbrev pub invariant-loop-p : goal.invariant-loop-p
invariant-loop-p l = record {
  least : AreGroups 0 (IsLeastOf l.columns l.walks l.kinds l.across) (length l.kinds) l.least.items l.p;
  given : AreGroups [] (IsThirdRow l.columns l.thirds.all.items) (length l.thirds.all.items) l.given.items l.p;
}
