-- What is told of what came of the file.
use Rattle.checks.proofs.find.check_window.Goals as goal

pub told_of-requires-clause-outcome : goal.told_of-requires-clause-outcome
told_of-requires-clause-outcome g c = let (bytes, found, is) = c.in_ok-outcome.ensures.outcome in (bytes, is)

pub returns-clause-checked : goal.returns-clause-checked
returns-clause-checked g c = λ bank same have.
    let (bytes, found, is) = c.in_ok-outcome.ensures.outcome in
    (bytes, found, c.told_of.ensures.checked bank bytes same have is)
