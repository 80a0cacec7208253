use Rattle.std.proofs.Common.{◌≡◌, ◌<◌, ℕ, length, get_or}
use Rattle.walk_costs.specs.Changes.{before, cost_over}
use Rattle.walk_costs.proofs.change.costs_from.Given as goal

abbrev pub invariant-loop-b : goal.invariant-loop-b
invariant-loop-b l = record {
  long : length l.costs ≡ 21;
  done : (b : ℕ) → b < l.b → get_or l.costs b 0 ≡ cost_over l.columns l.parts.times (before l.from b) (before l.to b) b l.p;
}
