use Rattle.std.proofs.Common.{◌≡◌, ◌+◌, ◌<◌, ◌≤◌, ℕ, bit_or, length, get_or}
use Rattle.signal_base.specs.declared.limits.TheConstants.{MOST_SECONDS}
use Rattle.leap_unions.proofs.together.add_from.Given as goal

abbrev pub invariant-loop-k : goal.invariant-loop-k
invariant-loop-k l = record {
  long : length l.sets ≡ MOST_SECONDS;
  done : (i : ℕ) → i < l.k → get_or l.sets i 0 ≡ bit_or (get_or l.fn.sets i 0) (get_or l.tape (l.from + i) 0);
  rest : (i : ℕ) → l.k ≤ i → get_or l.sets i 0 ≡ get_or l.fn.sets i 0;
}
