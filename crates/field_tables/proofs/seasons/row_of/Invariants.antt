use Rattle.std.proofs.Common.{◌≡◌, ◌+◌, ◌%◌, ◌<◌, ◌≤◌, ℕ, length, get_or}
use Rattle.walk_costs.specs.Dates.{minutes_to_call}
use Rattle.field_tables.proofs.seasons.row_of.Given as goal

abbrev pub invariant-loop-v : goal.invariant-loop-v
invariant-loop-v l = record {
  long : length l.row ≡ 30;
  each : (u : ℕ) → l.from ≤ u → u < l.v → get_or l.row (minutes_to_call ((u + l.shift) % 1440)) 0 ≤ get_or l.times u 0;
}
