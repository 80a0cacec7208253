use Rattle.std.proofs.Common.{◌≡◌, ◌<◌, ℕ, [], slice_index_or, vec_len}
use Rattle.minute_parts.specs.Dates.{time_part}
use Rattle.minute_parts.proofs.parts.times_of.Given as goal

abbrev pub invariant-loop-u : goal.invariant-loop-u
invariant-loop-u l = record {
  count : vec_len l.times ≡ l.u;
  each : (u : ℕ) → u < l.u → slice_index_or l.times.items u [] ≡ time_part l.station u;
}
