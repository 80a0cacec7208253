use Rattle.std.proofs.Common.{◌≡◌, length}
use Rattle.search_tests.proofs.floors.floors_of_days.Given as goal

abbrev pub invariant-loop-day : goal.invariant-loop-day
invariant-loop-day g l = record { tables : l.days.tables ≡ l.tables }

abbrev pub decreases-loop-day : goal.decreases-loop-day
decreases-loop-day g l = length l.days.left
