use Rattle.slot_columns.proofs.RowLaws.{none_costs}
use Rattle.slot_columns.proofs.slots.no_costs.Goals as goal

pub returns : goal.returns
returns c = none_costs 32
