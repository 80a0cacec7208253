-- A symbol that tells DUT1 is one of the station's.
use Rattle.std.proofs.Common.{arith}
use Rattle.heard.proofs.SymbolLaws.{two_symbols}
use Rattle.heard.proofs.ValueLaws.{few_values}
use Rattle.heard.proofs.values.second_cost.Goals as goal

pub symbol_of-requires-clause-value : goal.symbol_of-requires-clause-value
symbol_of-requires-clause-value c = omega (arith, few_values c.args.grid.now.station, c.requires.value)

pub cost_of-requires-clause-symbol : goal.cost_of-requires-clause-symbol
cost_of-requires-clause-symbol c = omega (arith, two_symbols c.args.grid.now.station, c.symbol_of.ensures.bit)
