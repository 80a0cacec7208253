use Rattle.field_tables.specs.Grids.{grid_costs}
use Rattle.plain_bounds.proofs.LeastLaws.{IsLeastBefore}
use Rattle.plain_bounds.proofs.plain.least_cost.Given as goal

abbrev pub invariant-loop-first : goal.invariant-loop-first
invariant-loop-first l = IsLeastBefore (grid_costs l.case.grids.now) l.case.window l.block l.first l.least
