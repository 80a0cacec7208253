use Rattle.std.proofs.Common.{◌*◌, ◌≤◌, arith, below_more}
use Rattle.definitions.specs.heard.Costs.{set_cost}
use Rattle.symbol_cost.specs.Grid.{cost_at}
use Rattle.symbol_cost.specs.declared.limits.TheConstants.{RECEIVER_COST}
use Rattle.slot_columns.specs.Rows.{index_of}
use Rattle.slot_columns.proofs.SetLaws.{index_bound, indexed}
use Rattle.walk_costs.proofs.set_costs.look_at_slot.Goals as goal

pub loop-set-preserved : goal.loop-set-preserved
loop-set-preserved c =
    let grid = c.args.columns.now in
    below_more (λ set. set_cost grid.station (cost_at grid.rows c.args.slot) set ≤ grid.receivers * RECEIVER_COST) c.loop-set.set c.loop-set.invariant
    (omega (arith, c.cost.ensures.cost, c.cost.ensures.bound))

pub returns : goal.returns
returns c = λ set.
    let grid = c.args.columns.now in
    omega (arith, indexed grid.station (cost_at grid.rows c.args.slot) set, c.loop-set.invariant (index_of set) (omega (arith, index_bound set)))
