use Rattle.std.proofs.Common.{◌≡◌, ◌+◌, ◌%◌, ◌<◌, ◌≤◌, ℕ, length, get_or}
use Rattle.field_tables.proofs.seasons.add_times.Given as goal

abbrev pub invariant-loop-v : goal.invariant-loop-v
invariant-loop-v l = record {
  long : length l.times ≡ 1440;
  done : (u : ℕ) → u < l.v → get_or l.times u 0 ≤ get_or l.fn.times u 0 + get_or l.row ((u + l.shift) % 1440) 0;
  rest : (u : ℕ) → l.v ≤ u → get_or l.times u 0 ≡ get_or l.fn.times u 0;
}
