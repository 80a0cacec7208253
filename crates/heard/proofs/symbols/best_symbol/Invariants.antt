-- The best of the symbols so far.
use Rattle.formats.proofs.CheapestLaws.{IsBest}
use Rattle.symbol_cost.specs.Grid.{cost_at}
use Rattle.heard.proofs.symbols.best_symbol.Given as goal

abbrev pub invariant-loop-x : goal.invariant-loop-x
invariant-loop-x l = IsBest (cost_at l.grid.rows l.slot) l.x l.best
