use Rattle.std.proofs.Common.{◌≡◌, ◌<◌, ◌≤◌, ℕ, length, get_or}
use Rattle.walk_costs.proofs.thirds.third.Given as goal

abbrev pub invariant-loop-s : goal.invariant-loop-s
invariant-loop-s l = record {
  long : length l.part ≡ 60;
  done : (s : ℕ) → l.from ≤ s → s < l.s → get_or l.part s 0 ≡ get_or l.told s 0;
  before : (s : ℕ) → s < l.from → get_or l.part s 0 ≡ 0;
  after : (s : ℕ) → l.s ≤ s → get_or l.part s 0 ≡ 0;
}
