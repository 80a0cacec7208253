-- The items so far have marks.
use Rattle.std.proofs.Common.{length, ◌-◌, ℕ, ◌≡◌, ◌<◌, ◌≤◌, true, false, get_or}
use Rattle.certificate_judge.proofs.begun.Begun.all.Given as goal

abbrev pub invariant-loop-i : goal.invariant-loop-i
invariant-loop-i l = record {
  within : l.i ≤ length l.self.items.now;
  marked : (k : ℕ) → k < l.i → get_or l.self.marks k false ≡ true;
}

abbrev pub decreases-loop-i : goal.decreases-loop-i
decreases-loop-i l = length l.self.items.now - l.i
