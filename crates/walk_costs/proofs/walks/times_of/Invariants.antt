use Rattle.std.proofs.Common.{◌≡◌, ◌<◌, ℕ, [], slice_index_or, vec_len}
use Rattle.walk_costs.proofs.walks.times_of.Given as goal

abbrev pub invariant-loop-u : goal.invariant-loop-u
invariant-loop-u l = record {
  count : vec_len l.times ≡ l.u;
  each : (u : ℕ) → u < l.u → slice_index_or l.times.items u [] ≡ slice_index_or l.parts.times u [];
}
