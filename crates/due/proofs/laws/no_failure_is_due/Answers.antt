-- The law, from its lemmas.
use Rattle.due.proofs.StatusLaws.{no_failure_is_due}
use Rattle.due.proofs.laws.no_failure_is_due.Goals as goal

pub returns : goal.returns
returns c = record { failed = λ due. (no_failure_is_due due).0; memory = λ due. (no_failure_is_due due).1 }
