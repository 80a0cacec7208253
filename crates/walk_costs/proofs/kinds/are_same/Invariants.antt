use Rattle.std.proofs.Common.{◌≡◌, ◌<◌, ◌≤◌, ℕ, get_or}
use Rattle.minute_parts.specs.declared.call.TheConstants.{CALL_BEGIN}
use Rattle.walk_costs.proofs.kinds.are_same.Given as goal

abbrev pub invariant-loop-s : goal.invariant-loop-s
invariant-loop-s l = record { done : (s : ℕ) → CALL_BEGIN ≤ s → s < l.s → get_or l.one.told s 0 ≡ get_or l.other.told s 0 }
