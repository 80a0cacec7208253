use Rattle.std.proofs.Common.{take}
use Rattle.field_tables.specs.Sums.{AreOf}
use Rattle.field_tables.proofs.stations.stations_of.Given as goal

abbrev pub invariant-loop-grid : goal.invariant-loop-grid
invariant-loop-grid l = AreOf (take l.grid-index l.grids) l.stations.items
