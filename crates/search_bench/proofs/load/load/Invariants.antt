use Rattle.std.proofs.Common.{◌≡◌}
use Rattle.search_bench.specs.Receivers.{count_of}
use Rattle.search_bench.proofs.load.load.Given as goal

abbrev pub invariant-loop-i : goal.invariant-loop-i
invariant-loop-i g l = count_of l.receivers ≡ l.i
