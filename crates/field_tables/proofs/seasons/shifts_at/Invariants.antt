use Rattle.std.proofs.Common.{◌≡◌, length}
use Rattle.field_tables.proofs.seasons.shifts_at.Given as goal

abbrev pub invariant-loop-i : goal.invariant-loop-i
invariant-loop-i l = record { count : length l.shifts.items ≡ l.i }
