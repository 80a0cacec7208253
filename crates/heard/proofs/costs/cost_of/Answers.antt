-- The set of one symbol costs what the symbol does.
use Rattle.std.proofs.Common.{ap, ◌∙◌, arith}
use Rattle.definitions.specs.heard.Costs.{set_cost}
use Rattle.symbol_cost.specs.Grid.{cost_at}
use Rattle.heard.proofs.SymbolLaws.{few_symbols, one_costs}
use Rattle.heard.proofs.costs.cost_of.Goals as goal

pub only-requires : goal.only-requires
only-requires c = omega (arith, c.requires.symbol, few_symbols c.args.grid.now.station)

pub returns-clause-cost : goal.returns-clause-cost
returns-clause-cost c =
    let g = c.args.grid.now in
    c.cost.ensures.cost ∙ ap (set_cost g.station (cost_at g.rows c.args.slot)) c.only.ensures ∙ one_costs g.station (cost_at g.rows c.args.slot) c.args.x c.requires.symbol
