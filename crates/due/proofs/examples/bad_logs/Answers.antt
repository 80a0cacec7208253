-- The first bad log decides.
use Rattle.due.proofs.ExampleLaws.{first_bad, second_bad, second_large, second_not_read, second_read}
use Rattle.due.proofs.examples.bad_logs.Goals as goal

pub returns-clause-second : goal.returns-clause-second
returns-clause-second c = second_bad

pub returns-clause-large : goal.returns-clause-large
returns-clause-large c = λ config second is. second_large config is second

pub returns-clause-first : goal.returns-clause-first
returns-clause-first c = λ config second is. first_bad config is second

pub returns-clause-read : goal.returns-clause-read
returns-clause-read c = λ config second is. second_read config is second

pub returns-clause-not_read : goal.returns-clause-not_read
returns-clause-not_read c = λ config second is. second_not_read config is second
