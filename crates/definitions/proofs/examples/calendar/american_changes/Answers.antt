-- WWVB's bits around changes, by the days of each year on which they come.
use Rattle.std.proofs.Common.{arith}
use Rattle.definitions.specs.examples.Dates.{on}
use Rattle.definitions.proofs.SeasonLaws.{around_american}
use Rattle.definitions.proofs.examples.calendar.american_changes.Goals as goal

pub returns-clause-of_2000 : goal.returns-clause-of_2000
returns-clause-of_2000 c = around_american 0 (on 2000 4 2) (omega arith) (omega arith) (omega arith)

pub returns-clause-to_2000 : goal.returns-clause-to_2000
returns-clause-to_2000 c = around_american 0 (on 2000 10 29) (omega arith) (omega arith) (omega arith)

pub returns-clause-of_2006 : goal.returns-clause-of_2006
returns-clause-of_2006 c = around_american 6 (on 2006 4 2) (omega arith) (omega arith) (omega arith)

pub returns-clause-to_2006 : goal.returns-clause-to_2006
returns-clause-to_2006 c = around_american 6 (on 2006 10 29) (omega arith) (omega arith) (omega arith)

pub returns-clause-of_2007 : goal.returns-clause-of_2007
returns-clause-of_2007 c = around_american 7 (on 2007 3 11) (omega arith) (omega arith) (omega arith)

pub returns-clause-to_2007 : goal.returns-clause-to_2007
returns-clause-to_2007 c = around_american 7 (on 2007 11 4) (omega arith) (omega arith) (omega arith)

pub returns-clause-of_2099 : goal.returns-clause-of_2099
returns-clause-of_2099 c = around_american 99 (on 2099 3 8) (omega arith) (omega arith) (omega arith)

pub returns-clause-to_2099 : goal.returns-clause-to_2099
returns-clause-to_2099 c = around_american 99 (on 2099 11 1) (omega arith) (omega arith) (omega arith)
