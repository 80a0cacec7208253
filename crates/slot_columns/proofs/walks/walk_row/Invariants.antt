use Rattle.std.proofs.Common.{◌≡◌, ◌*◌, ◌<◌, ◌≤◌, ℕ}
use Rattle.signal_base.specs.declared.limits.TheConstants.{MOST_RECEIVERS}
use Rattle.definitions.specs.time.Calendar.{minutes_per_day}
use Rattle.definitions.specs.heard.Costs.{sum_below}
use Rattle.symbol_cost.specs.declared.limits.TheConstants.{RECEIVER_COST}
use Rattle.slot_columns.specs.Days.{cost_so_far, day_cost}
use Rattle.slot_columns.specs.declared.limits.TheConstants.{LATER_MINUTES}
use Rattle.slot_columns.proofs.walks.walk_row.Given as goal

abbrev pub invariant-loop-k : goal.invariant-loop-k
invariant-loop-k l = record {
  minute : l.sums.minute ≤ LATER_MINUTES;
  sums : (u : ℕ) → u < minutes_per_day → cost_so_far l.sums u ≡ sum_below l.k (day_cost l.slots l.day l.p u);
  bound : (u : ℕ) → u < minutes_per_day → cost_so_far l.sums u ≤ MOST_RECEIVERS * RECEIVER_COST * l.k;
}
