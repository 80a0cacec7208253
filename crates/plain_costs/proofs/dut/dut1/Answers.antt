use Rattle.std.proofs.Common.{◌∙◌, sym}
use Rattle.definitions.specs.heard.Costs.{dut1_cost}
use Rattle.symbol_cost.specs.Grid.{cost_at}
use Rattle.plain_costs.proofs.ValueLaws.{dut_in_one_day}
use Rattle.plain_costs.proofs.dut.dut1.Goals as goal

pub returns : goal.returns
returns c =
    let costs = cost_at c.args.grid.now.rows in
    let n = c.args.window.now.seconds in
    let q = c.args.q.now in
    let cost = c.walk_cost-walk.ensures.cost in
    c.dut_told.ensures (dut1_cost c.args.station costs n q) cost.told
    ∙ sym (dut_in_one_day c.args.station costs n q (sym c.has_dut1.ensures ∙ c.if-not-has_dut1.false) (sym cost.one_day ∙ c.if-not-walk.false))
