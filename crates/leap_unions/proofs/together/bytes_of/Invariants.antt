use Rattle.std.proofs.Common.{ℕ, ◌<◌, slice_index}
use Rattle.leap_unions.proofs.together.bytes_of.Given as goal

abbrev pub invariant-loop-k : goal.invariant-loop-k
invariant-loop-k l = (j : ℕ) → j < l.k → slice_index l.sets j < 256
