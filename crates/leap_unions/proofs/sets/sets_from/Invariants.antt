use Rattle.std.proofs.Common.{◌≡◌, ◌+◌, ◌<◌, ℕ, length, get_or}
use Rattle.signal_base.specs.declared.limits.TheConstants.{MOST_SECONDS}
use Rattle.leap_unions.proofs.sets.sets_from.Given as goal

abbrev pub invariant-loop-k : goal.invariant-loop-k
invariant-loop-k l = record {
  long : length l.sets ≡ MOST_SECONDS;
  done : (k : ℕ) → k < l.k → get_or l.sets k 0 ≡ get_or l.row (l.from + k) 0;
}
