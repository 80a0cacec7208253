use Rattle.std.proofs.Common.{◌≡◌}
use Rattle.definitions.specs.heard.Costs.{sum_below}
use Rattle.slot_columns.specs.Tables.{lesser_column}
use Rattle.slot_columns.proofs.tables.sum_of_lesser.Given as goal

abbrev pub invariant-loop-s : goal.invariant-loop-s
invariant-loop-s l = l.cost ≡ sum_below l.s (lesser_column l.first l.later l.p l.one l.other)
