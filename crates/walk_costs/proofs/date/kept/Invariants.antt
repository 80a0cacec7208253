use Rattle.std.proofs.Common.{◌≡◌, ◌<◌, ◌≤◌, ℕ, length, get_or}
use Rattle.walk_costs.specs.Dates.{kept_set}
use Rattle.walk_costs.proofs.date.kept.Given as goal

abbrev pub invariant-loop-s : goal.invariant-loop-s
invariant-loop-s l = record {
  long : length l.kept ≡ 60;
  done : (s : ℕ) → s < l.s → get_or l.kept s 0 ≡ kept_set l.station l.part s;
  rest : (s : ℕ) → l.s ≤ s → get_or l.kept s 0 ≡ get_or l.part s 0;
}
