use Rattle.std.proofs.Common.{ℕ, ◌<◌, slice_index}
use Rattle.block_costs.proofs.local_hours.bytes_of.Given as goal

abbrev pub invariant-loop-s : goal.invariant-loop-s
invariant-loop-s l = (j : ℕ) → j < l.s → slice_index l.part j < 256
