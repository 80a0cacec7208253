use Rattle.slot_columns.specs.Layered.{ArePlaces}
use Rattle.slot_columns.proofs.layered.places_of.Given as goal

abbrev pub invariant-loop-i : goal.invariant-loop-i
invariant-loop-i l = record { places : ArePlaces l.firsts l.rests l.terms l.places.items l.i }
