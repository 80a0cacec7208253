use Rattle.std.proofs.Common.{[]}
use Rattle.slot_columns.specs.Layered.{AreGroups}
use Rattle.field_tables.specs.Seasons.{IsTimeRow}
use Rattle.field_tables.proofs.seasons.costs_of.Given as goal

abbrev pub invariant-loop-p : goal.invariant-loop-p
invariant-loop-p l = record { costs : AreGroups [] (IsTimeRow l.stations l.shifts.items l.seconds) 27 l.costs.items l.p }
