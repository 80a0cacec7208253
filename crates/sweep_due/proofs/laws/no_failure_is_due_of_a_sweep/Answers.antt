-- The law, from that of what is due of a run.
use Rattle.due.proofs.StatusLaws.{no_failure_is_due}
use Rattle.sweep_due.proofs.laws.no_failure_is_due_of_a_sweep.Goals as goal

pub returns : goal.returns
returns c = record { failed = λ words owed. (no_failure_is_due owed.due).0; memory = λ words owed. (no_failure_is_due owed.due).1 }
