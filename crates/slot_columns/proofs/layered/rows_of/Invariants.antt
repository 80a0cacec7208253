use Rattle.slot_columns.specs.Layered.{AreTermRows}
use Rattle.slot_columns.proofs.layered.rows_of.Given as goal

abbrev pub invariant-loop-p : goal.invariant-loop-p
invariant-loop-p l = record { rows : AreTermRows l.first l.later l.terms l.rows.items l.p }
