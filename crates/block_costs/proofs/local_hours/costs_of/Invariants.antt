use Rattle.std.proofs.Common.{ℕ, ◌≡◌, ◌<◌, ◌/◌, ◌%◌, length, slice_index}
use Rattle.block_costs.specs.Hours.{hour_at}
use Rattle.block_costs.specs.declared.local_hours.TheConstants.{DAY_HOURS}
use Rattle.block_costs.proofs.local_hours.costs_of.Given as goal

abbrev pub invariant-loop-i : goal.invariant-loop-i
invariant-loop-i l = record {
  count : length l.costs.items ≡ l.i;
  each : (j : ℕ) → j < l.i → slice_index l.costs.items j ≡ hour_at l.walks.grid l.firsts l.rests (j / DAY_HOURS) (j % DAY_HOURS);
}
