use Rattle.std.proofs.Common.{◌≡◌, ◌*◌, ◌<◌, length, ◌∙◌, ap, arith}
use Rattle.std.proofs.Math.ListN.{length-set}
use Rattle.definitions.specs.heard.Dut1.{dut1_symbol}
use Rattle.symbol_cost.specs.Grid.{cost_at}
use Rattle.symbol_cost.specs.declared.limits.TheConstants.{RECEIVER_COST}
use Rattle.symbol_cost.proofs.RowLaws.{grown_more}
use Rattle.plain_costs.specs.declared.tenths.TheConstants.{MOST_VALUES}
use Rattle.plain_costs.specs.Tenths.{tenths_at}
use Rattle.plain_costs.proofs.BitLaws.{bit_cost, bit_cost_bound, only_one, only_zero}
use Rattle.plain_costs.proofs.walk.add_told.Goals as goal

pub overflow_add-told : goal.overflow_add-told
overflow_add-told c =
    let small = bit_cost_bound c.symbol_of.result c.cost-zero.result c.cost-one.result (c.args.grid.now.receivers * RECEIVER_COST) c.cost-zero.ensures.bound c.cost-one.ensures.bound in
    omega (arith, small, c.cost_of_bit.ensures, c.loop-i.invariant.grown.bound c.loop-i.i, c.requires.room c.loop-i.i)

pub loop-i-preserved : goal.loop-i-preserved
loop-i-preserved c =
    let g = c.args.grid.now in
    let station = c.args.station in
    let costs = cost_at g.rows c.args.slot in
    let i = c.loop-i.i in
    let told = c.loop-i.told in
    let long : length told ≡ MOST_VALUES = c.loop-i.invariant.long in
    let within : i < length told = omega arith in
    let small = bit_cost_bound c.symbol_of.result c.cost-zero.result c.cost-one.result (g.receivers * RECEIVER_COST) c.cost-zero.ensures.bound c.cost-one.ensures.bound in
    let zero = c.cost-zero.ensures.cost ∙ only_zero g.station costs in
    let one = c.cost-one.ensures.cost ∙ only_one g.station costs in
    let is = c.cost_of_bit.ensures
    ∙ bit_cost costs c.symbol_of.result c.cost-zero.result c.cost-one.result c.symbol_of.ensures.bit zero one
    ∙ ap costs c.symbol_of.ensures.symbol in
    record {
      long = length-set told i _ ∙ long;
      grown = grown_more c.args.told.now told i (g.receivers * RECEIVER_COST) c.cost_of_bit.result
          (λ i. costs (dut1_symbol station (tenths_at station i) c.args.second))
          within is (omega (arith, small, c.cost_of_bit.ensures)) c.loop-i.invariant.grown;
    }
