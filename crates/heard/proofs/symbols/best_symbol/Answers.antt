-- One symbol after the other.
use Rattle.std.proofs.Common.{◌≡◌, ◌+◌, ap, ◌∙◌, subst, sym, arith}
use Rattle.signal_base.specs.Waveform.{symbol_count}
use Rattle.formats.proofs.CheapestLaws.{IsBest}
use Rattle.symbol_cost.specs.Grid.{cost_at}
use Rattle.heard.proofs.SymbolLaws.{best_is, best_more, best_of_one, two_symbols}
use Rattle.heard.proofs.symbols.best_symbol.Goals as goal

pub loop-x-init : goal.loop-x-init
loop-x-init c = best_of_one (cost_at c.args.grid.now.rows c.args.slot)

pub loop-x-preserved : goal.loop-x-preserved
loop-x-preserved c =
    let costs = cost_at c.args.grid.now.rows c.args.slot in
    subst (IsBest costs (c.loop-x.x + 1)) (sym c.better-best.ensures) (best_more costs c.loop-x.x c.loop-x.best c.loop-x.invariant)

pub returns : goal.returns
returns c =
    let g = c.args.grid.now in
    let count = c.symbols-x-end.ensures ∙ ap symbol_count c.station.ensures in
    let some = two_symbols g.station in
    let end : c.loop-x.x ≡ symbol_count g.station = omega arith in
    let best = subst (λ n. IsBest (cost_at g.rows c.args.slot) n c.loop-x.best) end c.loop-x.invariant in
    record { best = best_is g.station (cost_at g.rows c.args.slot) c.loop-x.best best; known = best.0 }
