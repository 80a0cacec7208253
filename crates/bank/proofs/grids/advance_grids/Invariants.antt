use Rattle.std.proofs.Common.{◌≡◌, ℕ, ◌<◌, ◌≤◌, length, get_or}
use Rattle.symbol_cost.specs.Grid.{Grid}
use Rattle.bank.specs.Hearing.{IsMoved}
use Rattle.bank.proofs.grids.advance_grids.Given as goal

abbrev pub invariant-loop-i : goal.invariant-loop-i
invariant-loop-i l = record {
  many : length l.grids ≡ length l.fn.grids;
  moved : (k : ℕ) (d : Grid) → k < l.i → IsMoved l.bank l.window l.by (get_or l.fn.grids k d) (get_or l.grids k d);
  rest : (k : ℕ) (d : Grid) → l.i ≤ k → get_or l.grids k d ≡ get_or l.fn.grids k d;
}
