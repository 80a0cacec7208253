use Rattle.std.proofs.Common.{◌≡◌, ◌+◌, ◌<◌, ℕ, length, get_or}
use Rattle.walk_costs.proofs.least.sum_of.Given as goal

abbrev pub invariant-loop-m : goal.invariant-loop-m
invariant-loop-m l = record {
  long : length l.costs ≡ 30;
  done : (m : ℕ) → m < l.m → get_or l.costs m 0 ≡ get_or l.low m 0 + get_or l.middle m 0 + get_or l.high m 0;
}
