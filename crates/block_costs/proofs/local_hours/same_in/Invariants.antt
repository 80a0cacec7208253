use Rattle.std.proofs.Common.{ℕ, ◌≡◌, ◌<◌, ◌≤◌, slice_index}
use Rattle.block_costs.proofs.local_hours.same_in.Given as goal

abbrev pub invariant-loop-s : goal.invariant-loop-s
invariant-loop-s l = (j : ℕ) → l.from ≤ j → j < l.s → slice_index l.part j ≡ slice_index l.other j
