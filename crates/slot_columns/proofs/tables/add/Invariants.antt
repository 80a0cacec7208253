use Rattle.std.proofs.Common.{◌≡◌, ◌+◌, ◌<◌, ◌≤◌, ℕ, length, get_or}
use Rattle.slot_columns.specs.declared.limits.TheConstants.{SETS}
use Rattle.slot_columns.proofs.tables.add.Given as goal

abbrev pub invariant-loop-set : goal.invariant-loop-set
invariant-loop-set l = record {
  long : length l.sums ≡ SETS;
  done : (set : ℕ) → set < l.set → get_or l.sums set 0 ≡ get_or l.fn.sums set 0 + get_or l.row set 0;
  rest : (set : ℕ) → l.set ≤ set → get_or l.sums set 0 ≡ get_or l.fn.sums set 0;
}
