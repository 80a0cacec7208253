use Rattle.std.proofs.Common.{◌≡◌, ◌<◌, ℕ, [], slice_index_or, vec_len}
use Rattle.minute_parts.specs.Runs.{run_at}
use Rattle.walk_costs.specs.Dates.{kept}
use Rattle.walk_costs.proofs.kept.kept_parts.Given as goal

abbrev pub invariant-loop-i : goal.invariant-loop-i
invariant-loop-i l = record {
  count : vec_len l.all ≡ l.i;
  each : (i : ℕ) → i < l.i → slice_index_or l.all.items i [] ≡ kept l.station (run_at l.parts.runs i).unannounced;
}
