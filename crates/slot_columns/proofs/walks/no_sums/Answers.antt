use Rattle.std.proofs.Common.{◌+◌, ◌/◌, ◌%◌, arith}
use Rattle.slot_columns.proofs.RowLaws.{none_costs}
use Rattle.slot_columns.proofs.walks.no_sums.Goals as goal

pub returns-clause-costs : goal.returns-clause-costs
returns-clause-costs c = λ u. omega (arith, none_costs 1440 u, none_costs 60 (u % 60), none_costs 25 ((u + 0) / 60))
