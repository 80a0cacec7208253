use Rattle.std.proofs.Common.{◌≡◌, ◌<◌, ℕ, length, get_or}
use Rattle.walk_costs.specs.Kinds.{either_set}
use Rattle.walk_costs.proofs.over.either_part.Given as goal

abbrev pub invariant-loop-s : goal.invariant-loop-s
invariant-loop-s l = record {
  long : length l.part ≡ 60;
  done : (s : ℕ) → s < l.s → get_or l.part s 0 ≡ either_set (get_or l.one s 0) (get_or l.other s 0);
}
