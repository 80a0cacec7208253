use Rattle.std.proofs.Common.{length, take}
use Rattle.definitions.specs.heard.Receivers.{receptions}
use Rattle.definitions.specs.heard.Costs.{slot_cost}
use Rattle.symbol_cost.specs.Grid.{AreRows}
use Rattle.symbol_cost.proofs.rows.score.Given as goal

abbrev pub invariant-loop-i : goal.invariant-loop-i
invariant-loop-i l = AreRows l.rows l.station (length l.fn.rows) l.i (slot_cost l.table (receptions (take l.i l.tunings) (take l.i l.logs)) l.station l.begin)
