use Rattle.field_tables.proofs.SeasonFloorLaws.{IsSumTo}
use Rattle.field_tables.proofs.sums.WindowSums.floor_in.Given as goal

abbrev pub invariant-loop-i : goal.invariant-loop-i
invariant-loop-i l = record { sum : IsSumTo l.self l.season.shifts.items l.block l.from l.to l.i l.kept l.given }
