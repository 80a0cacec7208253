use Rattle.std.proofs.Common.{◌≡◌, ◌-◌, ◌*◌, ◌≤◌, max}
use Rattle.signal_base.specs.declared.limits.TheConstants.{MOST_RECEIVERS}
use Rattle.definitions.specs.heard.Costs.{sum_below}
use Rattle.symbol_cost.specs.declared.limits.TheConstants.{RECEIVER_COST}
use Rattle.slot_columns.proofs.MinuteLaws.{in_minute}
use Rattle.walk_costs.specs.Dates.{given_up}
use Rattle.walk_costs.proofs.call.call_cost.Given as goal

abbrev pub invariant-loop-k : goal.invariant-loop-k
invariant-loop-k l = record {
  cost : l.cost ≡ sum_below l.k (in_minute l.columns l.p l.m (given_up l.columns.station l.part));
  reached : l.k ≤ max l.from l.end;
  bound : l.cost ≤ MOST_RECEIVERS * RECEIVER_COST * (l.k - l.from);
}
