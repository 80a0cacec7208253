use Rattle.std.proofs.Common.{ℕ, ◌≡◌, ◌<◌, ◌≤◌, bit_or, slice_index}
use Rattle.block_costs.proofs.local_hours.covers.Given as goal

abbrev pub invariant-loop-s : goal.invariant-loop-s
invariant-loop-s l = (j : ℕ) → l.from ≤ j → j < l.s → bit_or (slice_index l.all j) (slice_index l.part j) ≡ slice_index l.all j
