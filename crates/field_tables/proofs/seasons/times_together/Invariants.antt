use Rattle.std.proofs.Common.{◌<◌, ◌≤◌, ℕ, get_or, take}
use Rattle.field_tables.specs.Seasons.{times_together}
use Rattle.field_tables.proofs.seasons.times_together.Given as goal

abbrev pub invariant-loop-i : goal.invariant-loop-i
invariant-loop-i l = record { less : (v : ℕ) → v < 1440 → get_or l.times v 0 ≤ times_together (take l.i l.stations) l.shifts.items l.p v }
