use Rattle.std.proofs.Common.{◌≡◌, ◌*◌, ◌≤◌}
use Rattle.signal_base.specs.declared.limits.TheConstants.{MOST_RECEIVERS}
use Rattle.symbol_cost.specs.declared.limits.TheConstants.{RECEIVER_COST}
use Rattle.slot_columns.specs.declared.limits.TheConstants.{SECONDS_PER_MINUTE}
use Rattle.walk_costs.proofs.OverLaws.{minutes_before}
use Rattle.walk_costs.proofs.change.cost_over.Given as goal

abbrev pub invariant-loop-m : goal.invariant-loop-m
invariant-loop-m l = record {
  cost : l.cost ≡ minutes_before l.columns l.parts.times l.u l.v l.b l.p l.m;
  bound : l.cost ≤ l.m * (SECONDS_PER_MINUTE * (MOST_RECEIVERS * RECEIVER_COST));
}
