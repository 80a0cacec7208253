use Rattle.std.proofs.Common.{◌≡◌, ◌<◌, ℕ, get_or}
use Rattle.slot_columns.specs.Days.{hour_begin}
use Rattle.slot_columns.proofs.day_columns.is_steady.Given as goal

abbrev pub invariant-loop-i : goal.invariant-loop-i
invariant-loop-i l = (i : ℕ) → i < l.i → get_or l.column i 0 ≡ get_or l.column (hour_begin i) 0
