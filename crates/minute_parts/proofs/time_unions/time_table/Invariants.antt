use Rattle.std.proofs.Common.{◌≡◌, ◌<◌, ℕ, length}
use Rattle.minute_parts.specs.Times.{IsLevelEntry}
use Rattle.minute_parts.proofs.time_unions.time_table.Given as goal

abbrev pub invariant-loop-n : goal.invariant-loop-n
invariant-loop-n l = record {
  count : length l.table.items ≡ l.n;
  each : (i : ℕ) → i < l.n → IsLevelEntry l.parts.times l.table.items i;
}
