use Rattle.std.proofs.Common.{◌≡◌, ◌<◌, ◌≤◌, ℕ, length, get_or}
use Rattle.signal_base.specs.declared.limits.TheConstants.{GREATEST_COST}
use Rattle.slot_columns.specs.Parts.{entry}
use Rattle.walk_costs.specs.Kinds.{IsBegin}
use Rattle.walk_costs.specs.Leasts.{call_class}
use Rattle.walk_costs.proofs.least.begins_of.Given as goal

abbrev pub invariant-loop-j : goal.invariant-loop-j
invariant-loop-j l = record {
  long : length l.costs ≡ 30;
  before : (u : ℕ) → IsBegin l.j l.last u → l.first ≤ call_class l.reached u;
  done : (u : ℕ) → IsBegin l.j l.last u → get_or l.costs (call_class l.reached u) 0 ≤ entry l.walks l.p u;
  small : (m : ℕ) → m < 30 → get_or l.costs m 0 ≤ GREATEST_COST;
}
