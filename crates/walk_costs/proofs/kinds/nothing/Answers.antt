use Rattle.slot_columns.proofs.RowLaws.{none_costs}
use Rattle.walk_costs.proofs.kinds.nothing.Goals as goal

pub returns : goal.returns
returns c = λ s. none_costs 60 s
