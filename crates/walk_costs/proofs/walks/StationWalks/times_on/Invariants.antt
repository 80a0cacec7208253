use Rattle.std.proofs.Common.{◌≡◌, ◌<◌, ℕ, length, get_or}
use Rattle.walk_costs.specs.Changes.{before, cost_over}
use Rattle.walk_costs.proofs.walks.StationWalks.times_on.Given as goal

abbrev pub invariant-loop-b : goal.invariant-loop-b
invariant-loop-b l = record {
  long : length l.costs ≡ 21;
  done : (b : ℕ) → b < l.b → get_or l.costs b 0 ≡ cost_over l.self.grid l.self.parts.times (before l.from b) (before l.from b) b l.p;
}
