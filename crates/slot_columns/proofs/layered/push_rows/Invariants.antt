use Rattle.std.proofs.Common.{[]}
use Rattle.slot_columns.specs.Layered.{AreAdded, IsTermRow}
use Rattle.slot_columns.proofs.layered.push_rows.Given as goal

abbrev pub invariant-loop-j : goal.invariant-loop-j
invariant-loop-j l = record { added : AreAdded [] (IsTermRow l.first l.later l.terms l.p) l.fn.rows.items l.rows.items l.j }
