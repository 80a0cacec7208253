use Rattle.std.proofs.Common.{◌≡◌, ◌+◌, ◌*◌, ◌<◌, ◌≤◌, ℕ, length, get_or}
use Rattle.signal_base.specs.declared.limits.TheConstants.{MOST_RECEIVERS}
use Rattle.symbol_cost.specs.declared.limits.TheConstants.{RECEIVER_COST}
use Rattle.slot_columns.specs.Tables.{in_front}
use Rattle.slot_columns.specs.declared.split.TheConstants.{SPLITS}
use Rattle.slot_columns.proofs.split.change_second.Given as goal

abbrev pub invariant-loop-m : goal.invariant-loop-m
invariant-loop-m l = record {
  long : length l.costs ≡ SPLITS;
  more_is : l.more ≡ in_front l.slots l.p l.s l.before l.m;
  less_is : l.less ≡ in_front l.slots l.p l.s l.after l.m;
  more_bound : l.more ≤ MOST_RECEIVERS * RECEIVER_COST * l.m;
  less_bound : l.less ≤ MOST_RECEIVERS * RECEIVER_COST * l.m;
  done : (b : ℕ) → b ≤ l.m → get_or l.costs b 0 + in_front l.slots l.p l.s l.after b ≡ get_or l.fn.costs b 0 + in_front l.slots l.p l.s l.before b;
  rest : (b : ℕ) → l.m < b → get_or l.costs b 0 ≡ get_or l.fn.costs b 0;
}
