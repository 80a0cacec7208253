use Rattle.std.proofs.Common.{get_or, ap, ◌∙◌}
use Rattle.symbol_cost.specs.Grid.{cost_at}
use Rattle.slot_columns.specs.Rows.{index_of}
use Rattle.slot_columns.proofs.SetLaws.{index_bound, indexed}
use Rattle.slot_columns.proofs.slots.SlotCosts.cost.Goals as goal

pub returns-clause-cost : goal.returns-clause-cost
returns-clause-cost c =
    let grid = c.args.self.now in
    ap (λ x. get_or c.row.result.now x 0) c.index_of.ensures.index ∙ c.row.ensures.each (index_of c.args.set) (index_bound c.args.set)
    ∙ indexed grid.station (cost_at grid.rows c.args.slot) c.args.set
