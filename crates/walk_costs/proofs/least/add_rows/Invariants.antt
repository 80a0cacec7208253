use Rattle.std.proofs.Common.{[]}
use Rattle.slot_columns.specs.Layered.{AreAdded}
use Rattle.walk_costs.specs.Leasts.{IsRowAt}
use Rattle.walk_costs.proofs.least.add_rows.Given as goal

abbrev pub invariant-loop-h : goal.invariant-loop-h
invariant-loop-h l = record { added : AreAdded [] (IsRowAt l.rows) l.fn.given.items l.given.items l.h }
