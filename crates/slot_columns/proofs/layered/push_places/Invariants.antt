use Rattle.slot_columns.specs.Layered.{AreAdded, IsPlace}
use Rattle.slot_columns.proofs.layered.push_places.Given as goal

abbrev pub invariant-loop-j : goal.invariant-loop-j
invariant-loop-j l = record { added : AreAdded 0 (IsPlace l.first l.rest l.terms) l.fn.places.items l.places.items l.j }
