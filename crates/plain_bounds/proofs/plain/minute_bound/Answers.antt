use Rattle.field_tables.specs.Grids.{grid_costs}
use Rattle.plain_bounds.proofs.LeastLaws.{bound_of_minute}
use Rattle.plain_bounds.proofs.plain.minute_bound.Goals as goal

pub returns : goal.returns
returns c =
    let case = c.args.case.now in
    bound_of_minute (grid_costs case.grids.now) case.window c.args.block.now c.first_of.result c.legal_cost.result c.first_of.ensures c.legal_cost.ensures
