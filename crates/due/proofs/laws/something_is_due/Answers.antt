-- The law, from its lemmas.
use Rattle.due.proofs.DueLaws.{some_due}
use Rattle.due.proofs.laws.something_is_due.Goals as goal

pub returns : goal.returns
returns c = λ words contents. some_due contents words
