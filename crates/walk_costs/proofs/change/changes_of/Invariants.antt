use Rattle.std.proofs.Common.{All}
use Rattle.walk_costs.specs.Changes.{IsChange}
use Rattle.walk_costs.proofs.change.changes_of.Given as goal

abbrev pub invariant-loop-run : goal.invariant-loop-run
invariant-loop-run l = record { changes : All (IsChange l.parts l.columns) l.changes.items }
