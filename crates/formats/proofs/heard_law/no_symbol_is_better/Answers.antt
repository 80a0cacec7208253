use Rattle.formats.proofs.SymbolLaws.{best_law}
use Rattle.formats.proofs.heard_law.no_symbol_is_better.Goals as goal

pub returns : goal.returns
returns c = record {
  known = λ station costs. (best_law station costs).0;
  least = λ station costs. (best_law station costs).1;
  first = λ station costs. (best_law station costs).2;
}
