use Rattle.std.proofs.Common.{◌≡◌, ℕ, ◌<◌, ◌≤◌, [], length, get_or}
use Rattle.symbol_cost.specs.Grid.{cost_at}
use Rattle.symbol_cost.proofs.rows.free.Given as goal

abbrev pub invariant-loop-k : goal.invariant-loop-k
invariant-loop-k l = record {
  slots : length l.rows ≡ length l.fn.rows;
  from : l.from ≤ l.k;
  kept : (j : ℕ) → j < l.from → get_or l.rows j [] ≡ get_or l.fn.rows j [];
  free : (j x : ℕ) → l.from ≤ j → j < l.k → cost_at l.rows j x ≡ 0;
}
