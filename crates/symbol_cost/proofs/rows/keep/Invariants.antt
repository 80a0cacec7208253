use Rattle.std.proofs.Common.{◌≡◌, ℕ, ◌+◌, ◌<◌, ◌≤◌, [], length, get_or}
use Rattle.symbol_cost.proofs.rows.keep.Given as goal

abbrev pub invariant-loop-k : goal.invariant-loop-k
invariant-loop-k l = record {
  slots : length l.rows ≡ length l.fn.rows;
  moved : (j : ℕ) → j < l.k → get_or l.rows j [] ≡ get_or l.fn.rows (j + l.by) [];
  rest : (j : ℕ) → l.k ≤ j → get_or l.rows j [] ≡ get_or l.fn.rows j [];
}
