-- Each grid tells what its station tells of DUT1.
use Rattle.std.proofs.Common.{◌≡◌, map, sym, ap, ◌∙◌, subst, arith}
use Rattle.std.proofs.lemmas.List.{take_all}
use Rattle.signal_base.specs.declared.dut.StationDut.{StationDut}
use Rattle.definitions.specs.declared.answer.Answer.{Answer}
use Rattle.definitions.specs.heard.Costs.{dut_of}
use Rattle.symbol_cost.specs.Grid.{Grid, cost_at}
use Rattle.plain_costs.proofs.GridLaws.{heard_station}
use Rattle.due.specs.Banks.{costs_in, duts_of}
use Rattle.bank.proofs.DutLaws.{at_most_four_grids, told_all}
use Rattle.bank.proofs.decoding.duts_of.Goals as goal

pub dut1-dut-requires-clause-heard : goal.dut1-dut-requires-clause-heard
dut1-dut-requires-clause-heard c =
    heard_station c.args.window.now c.args.grids.now c.requires.grids c.loop-i.i c.index-grids-i.result c.station-station.result (omega arith) c.index-grids-i.is c.station-station.ensures

pub push-requires : goal.push-requires
push-requires c = let few = at_most_four_grids c.args.window.now c.args.grids.now c.requires.grids in let count = c.loop-i.invariant.count in omega arith

pub returns : goal.returns
returns c = λ bank have.
    let window = c.args.window.now in
    let q = c.in-Decided.sequence in
    subst (λ (a : Answer). c.loop-i.duts ≡ duts_of window bank a) (sym c.in-Decided.is)
    (c.loop-i.invariant.told
    ∙ ap (map (λ (g : Grid). let told : StationDut = record { station = g.station; dut = dut_of g.station (cost_at g.rows) window.seconds q } in told)) (take_all c.loop-i.i c.args.grids.now (omega arith))
    ∙ told_all window (costs_in window bank) q c.args.grids.now c.requires.grids have)
