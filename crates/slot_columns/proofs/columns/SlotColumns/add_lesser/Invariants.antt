use Rattle.std.proofs.Common.{◌≡◌, ◌+◌, ◌*◌, ◌<◌, ◌≤◌, ℕ, length, get_or}
use Rattle.signal_base.specs.declared.limits.TheConstants.{MOST_RECEIVERS}
use Rattle.symbol_cost.specs.declared.limits.TheConstants.{RECEIVER_COST}
use Rattle.slot_columns.specs.Tables.{behind, in_front, lesser_in_change}
use Rattle.slot_columns.specs.declared.split.TheConstants.{SPLITS}
use Rattle.slot_columns.proofs.columns.SlotColumns.add_lesser.Given as goal

abbrev pub invariant-loop-m : goal.invariant-loop-m
invariant-loop-m l = record {
  long : length l.costs ≡ SPLITS;
  front_is : l.front.0 ≡ in_front l.self l.p l.s l.one l.m;
  other_front_is : l.front.1 ≡ in_front l.self l.p l.s l.other l.m;
  behind_is : l.behind.0 ≡ behind l.self l.p l.s l.one l.m;
  other_behind_is : l.behind.1 ≡ behind l.self l.p l.s l.other l.m;
  bound : l.front.0 ≤ MOST_RECEIVERS * RECEIVER_COST * l.m;
  other_bound : l.front.1 ≤ MOST_RECEIVERS * RECEIVER_COST * l.m;
  done : (b : ℕ) → 1 ≤ b → b ≤ l.m → get_or l.costs b 0 ≡ get_or l.fn.costs b 0 + lesser_in_change l.self l.p l.s l.one l.other b;
  rest : (b : ℕ) → l.m < b → get_or l.costs b 0 ≡ get_or l.fn.costs b 0;
}
