use Rattle.std.proofs.Common.{◌≡◌, ◌+◌, ◌<◌, ◌≤◌, ℕ, length, get_or}
use Rattle.definitions.specs.time.Calendar.{minutes_per_day}
use Rattle.slot_columns.proofs.walks.add_to_each.Given as goal

abbrev pub invariant-loop-u : goal.invariant-loop-u
invariant-loop-u l = record {
  long : length l.costs ≡ minutes_per_day;
  each : (u : ℕ) → l.begin ≤ u → u < l.u → get_or l.costs u 0 ≡ get_or l.fn.costs u 0 + l.cost;
  before : (u : ℕ) → u < l.begin → get_or l.costs u 0 ≡ get_or l.fn.costs u 0;
  after : (u : ℕ) → l.u ≤ u → get_or l.costs u 0 ≡ get_or l.fn.costs u 0;
}
