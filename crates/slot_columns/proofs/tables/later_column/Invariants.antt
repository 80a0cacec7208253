use Rattle.std.proofs.Common.{◌≡◌, ◌+◌, ◌*◌, ◌<◌, ◌≤◌, ℕ, get_or}
use Rattle.signal_base.specs.declared.limits.TheConstants.{MOST_RECEIVERS}
use Rattle.definitions.specs.heard.Costs.{sum_below}
use Rattle.symbol_cost.specs.declared.limits.TheConstants.{RECEIVER_COST}
use Rattle.slot_columns.specs.declared.limits.TheConstants.{SECONDS_PER_MINUTE, SETS}
use Rattle.slot_columns.specs.Tables.{at_place}
use Rattle.slot_columns.proofs.tables.later_column.Given as goal

abbrev pub invariant-loop-m : goal.invariant-loop-m
invariant-loop-m l = record {
  sums : (set : ℕ) → set < SETS → get_or l.sums set 0 ≡ sum_below l.m (λ m. at_place l.slots l.p set (SECONDS_PER_MINUTE * (m + 1) + l.s));
  small : (set : ℕ) → set < SETS → get_or l.sums set 0 ≤ MOST_RECEIVERS * RECEIVER_COST * l.m;
}
