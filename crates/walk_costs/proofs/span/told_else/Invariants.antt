use Rattle.std.proofs.Common.{◌≡◌, ◌<◌, ℕ, length, get_or}
use Rattle.slot_columns.specs.Rows.{index_of}
use Rattle.walk_costs.specs.Seen.{other_set}
use Rattle.walk_costs.proofs.span.told_else.Given as goal

abbrev pub invariant-loop-s : goal.invariant-loop-s
invariant-loop-s l = record {
  long : length l.part ≡ 60;
  done : (s : ℕ) → s < l.s → get_or l.part s 0 ≡ other_set (get_or l.one s 0) (get_or l.other s 0) (index_of (get_or l.told s 0));
}
