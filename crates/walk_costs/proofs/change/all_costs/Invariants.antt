use Rattle.std.proofs.Common.{◌≡◌, ◌<◌, ℕ, [], length, slice_index_or}
use Rattle.walk_costs.specs.Changes.{AreCostsOver}
use Rattle.walk_costs.proofs.change.all_costs.Given as goal

abbrev pub invariant-loop-p : goal.invariant-loop-p
invariant-loop-p l = record {
  count : length l.all.items ≡ l.p;
  each : (p : ℕ) → p < l.p → AreCostsOver l.columns l.parts.times l.from l.to p (slice_index_or l.all.items p []);
}
