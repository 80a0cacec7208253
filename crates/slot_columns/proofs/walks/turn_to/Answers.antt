use Rattle.std.proofs.Common.{◌+◌, ◌/◌, arith}
use Rattle.slot_columns.proofs.RowLaws.{none_costs}
use Rattle.slot_columns.proofs.walks.turn_to.Goals as goal

pub add_by_hour-requires-clause-room : goal.add_by_hour-requires-clause-room
add_by_hour-requires-clause-room c = λ u within. omega (arith, c.requires.room u within)

pub returns-clause-costs : goal.returns-clause-costs
returns-clause-costs c = λ u within. omega (arith, c.add_by_hour.ensures u within, none_costs 25 ((u + c.args.m) / 60))
