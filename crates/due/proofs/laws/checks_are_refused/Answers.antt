-- The law, from its lemma.
use Rattle.due.proofs.StatusLaws.{check_is_refused}
use Rattle.due.proofs.laws.checks_are_refused.Goals as goal

pub returns : goal.returns
returns c = check_is_refused
