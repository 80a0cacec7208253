use Rattle.std.proofs.Common.{◌≡◌, ◌<◌, ℕ, length, get_or}
use Rattle.slot_columns.specs.declared.limits.TheConstants.{SECONDS_PER_MINUTE}
use Rattle.slot_columns.specs.Tables.{columns_cost}
use Rattle.slot_columns.proofs.layered.common_costs.Given as goal

abbrev pub invariant-loop-p : goal.invariant-loop-p
invariant-loop-p l = record {
  long : length l.costs ≡ SECONDS_PER_MINUTE;
  costs : (p : ℕ) → p < l.p → get_or l.costs p 0 ≡ columns_cost l.first l.later p l.a l.b;
}
