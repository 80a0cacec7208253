-- The seasons around changes, by the days of each year on which they come.
use Rattle.std.proofs.Common.{arith}
use Rattle.definitions.specs.examples.Dates.{on}
use Rattle.definitions.proofs.SeasonLaws.{around_european}
use Rattle.definitions.proofs.examples.calendar.european_changes.Goals as goal

pub returns-clause-of_2024 : goal.returns-clause-of_2024
returns-clause-of_2024 c = around_european 24 (on 2024 3 31) (omega arith) (omega arith) (omega arith)

pub returns-clause-to_2024 : goal.returns-clause-to_2024
returns-clause-to_2024 c = around_european 24 (on 2024 10 27) (omega arith) (omega arith) (omega arith)

pub returns-clause-of_2030 : goal.returns-clause-of_2030
returns-clause-of_2030 c = around_european 30 (on 2030 3 31) (omega arith) (omega arith) (omega arith)

pub returns-clause-to_2030 : goal.returns-clause-to_2030
returns-clause-to_2030 c = around_european 30 (on 2030 10 27) (omega arith) (omega arith) (omega arith)

pub returns-clause-of_2096 : goal.returns-clause-of_2096
returns-clause-of_2096 c = around_european 96 (on 2096 3 25) (omega arith) (omega arith) (omega arith)

pub returns-clause-to_2096 : goal.returns-clause-to_2096
returns-clause-to_2096 c = around_european 96 (on 2096 10 28) (omega arith) (omega arith) (omega arith)
