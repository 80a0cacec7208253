use Rattle.std.proofs.Common.{[]}
use Rattle.slot_columns.specs.Layered.{AreAdded}
use Rattle.field_tables.specs.Seasons.{IsRowOf}
use Rattle.field_tables.proofs.seasons.add_rows.Given as goal

abbrev pub invariant-loop-piece : goal.invariant-loop-piece
invariant-loop-piece l = record { added : AreAdded [] (IsRowOf l.times l.shift l.later) l.fn.costs.items l.costs.items l.piece }
