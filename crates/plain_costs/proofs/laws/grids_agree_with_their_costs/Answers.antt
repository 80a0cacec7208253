use Rattle.plain_costs.proofs.GridLaws.{agree}
use Rattle.plain_costs.proofs.laws.grids_agree_with_their_costs.Goals as goal

pub returns : goal.returns
returns c = λ window grids costs are have. agree window grids are costs have
