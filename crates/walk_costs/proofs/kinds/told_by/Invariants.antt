use Rattle.std.proofs.Common.{◌≡◌, ◌<◌, ◌≤◌, ℕ, length, get_or}
use Rattle.minute_parts.specs.declared.call.TheConstants.{CALL_BEGIN}
use Rattle.walk_costs.specs.Kinds.{either_set}
use Rattle.walk_costs.proofs.kinds.told_by.Given as goal

abbrev pub invariant-loop-s : goal.invariant-loop-s
invariant-loop-s l = record {
  long : length l.told ≡ 60;
  done : (s : ℕ) → CALL_BEGIN ≤ s → s < l.s → get_or l.told s 0 ≡ either_set (get_or l.one s 0) (get_or l.other s 0);
}
