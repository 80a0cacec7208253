-- The law, from its lemmas.
use Rattle.due.proofs.DueLaws.{one_due}
use Rattle.due.proofs.laws.due_is_one.Goals as goal

pub returns : goal.returns
returns c = λ words contents. one_due contents words
