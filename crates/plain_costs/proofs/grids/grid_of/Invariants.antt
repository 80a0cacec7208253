use Rattle.plain_costs.proofs.GridLaws.{AreBefore}
use Rattle.plain_costs.proofs.grids.grid_of.Given as goal

abbrev pub invariant-loop-grid : goal.invariant-loop-grid
invariant-loop-grid l = AreBefore l.grids l.station l.grid-index
