use Rattle.std.proofs.Common.{◌≡◌, ◌+◌, ◌<◌, ℕ, length, get_or}
use Rattle.walk_costs.proofs.walks.StationWalks.date_costs.Given as goal

abbrev pub invariant-loop-m : goal.invariant-loop-m
invariant-loop-m l = record {
  long : length l.costs ≡ 30;
  done : (j : ℕ) → j < l.m → get_or l.costs j 0 ≡ l.kept + get_or l.given j 0;
}
