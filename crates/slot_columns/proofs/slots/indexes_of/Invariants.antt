use Rattle.std.proofs.Common.{◌≡◌, ◌<◌, ℕ, length, get_or}
use Rattle.signal_base.specs.declared.limits.TheConstants.{MOST_SECONDS}
use Rattle.slot_columns.specs.Rows.{index_of}
use Rattle.slot_columns.proofs.slots.indexes_of.Given as goal

abbrev pub invariant-loop-k : goal.invariant-loop-k
invariant-loop-k l = record {
  long : length l.indexes ≡ MOST_SECONDS;
  done : (k : ℕ) → k < l.k → get_or l.indexes k 0 ≡ index_of (get_or l.sets k 0);
}
