use Rattle.std.proofs.Common.{◌≡◌, ◌<◌, ℕ, length, get_or}
use Rattle.walk_costs.specs.Dates.{IsAdded}
use Rattle.walk_costs.proofs.walks.all_added.Given as goal

abbrev pub invariant-loop-p : goal.invariant-loop-p
invariant-loop-p l = record {
  long : length l.all ≡ 60;
  done : (p : ℕ) → p < l.p → IsAdded l.columns p (get_or l.all p 0);
}
