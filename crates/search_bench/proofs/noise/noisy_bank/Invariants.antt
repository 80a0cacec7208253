use Rattle.std.proofs.Common.{◌≡◌}
use Rattle.search_bench.specs.Receivers.{count_of}
use Rattle.search_bench.proofs.noise.noisy_bank.Given as goal

abbrev pub invariant-loop-i : goal.invariant-loop-i
invariant-loop-i l = count_of l.receivers ≡ l.i
