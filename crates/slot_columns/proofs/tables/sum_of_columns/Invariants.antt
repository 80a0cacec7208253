use Rattle.std.proofs.Common.{◌≡◌}
use Rattle.definitions.specs.heard.Costs.{sum_below}
use Rattle.slot_columns.specs.Tables.{column_cost}
use Rattle.slot_columns.proofs.tables.sum_of_columns.Given as goal

abbrev pub invariant-loop-s : goal.invariant-loop-s
invariant-loop-s l = l.cost ≡ sum_below l.s (column_cost l.first l.later l.p l.in_first l.in_later)
