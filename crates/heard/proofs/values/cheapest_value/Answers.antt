-- One value after the other.
use Rattle.std.proofs.Common.{◌≡◌, ◌+◌, ℕ, ap, ◌∙◌, subst, sym, arith}
use Rattle.definitions.specs.heard.Costs.{dut1_cost}
use Rattle.formats.proofs.CheapestLaws.{IsBest}
use Rattle.symbol_cost.specs.Grid.{cost_at}
use Rattle.plain_costs.specs.Tenths.{tenths_at, value_count}
use Rattle.heard.proofs.SymbolLaws.{best_more, best_of_one}
use Rattle.heard.proofs.ValueLaws.{some_values, value_is}
use Rattle.heard.proofs.values.cheapest_value.Goals as goal

pub loop-i-init : goal.loop-i-init
loop-i-init c = best_of_one (λ (i : ℕ). dut1_cost c.args.grid.now.station (cost_at c.args.grid.now.rows) c.args.window.now.seconds c.args.q.now (tenths_at c.args.grid.now.station i))

pub loop-i-preserved : goal.loop-i-preserved
loop-i-preserved c =
    let costs = λ (i : ℕ). dut1_cost c.args.grid.now.station (cost_at c.args.grid.now.rows) c.args.window.now.seconds c.args.q.now (tenths_at c.args.grid.now.station i) in
    subst (IsBest costs (c.loop-i.i + 1)) (sym c.better_value-best.ensures) (best_more costs c.loop-i.i c.loop-i.best c.loop-i.invariant)

pub returns : goal.returns
returns c =
    let g = c.args.grid.now in
    let costs = λ (i : ℕ). dut1_cost g.station (cost_at g.rows) c.args.window.now.seconds c.args.q.now (tenths_at g.station i) in
    let count = c.value_count-i-end.ensures.count ∙ ap value_count c.station.ensures in
    let some = some_values g.station c.requires.values in
    let end : c.loop-i.i ≡ value_count g.station = omega arith in
    let best = subst (λ n. IsBest costs n c.loop-i.best) end c.loop-i.invariant in
    record { known = best.0; told = value_is g.station (dut1_cost g.station (cost_at g.rows) c.args.window.now.seconds c.args.q.now) c.loop-i.best best }
