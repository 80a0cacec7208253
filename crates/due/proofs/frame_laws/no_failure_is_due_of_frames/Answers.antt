-- The law, from its lemmas.
use Rattle.due.proofs.StatusLaws.{no_frame_failure_is_due}
use Rattle.due.proofs.frame_laws.no_failure_is_due_of_frames.Goals as goal

pub returns : goal.returns
returns c = record { failed = λ due. (no_frame_failure_is_due due).0; memory = λ due. (no_frame_failure_is_due due).1 }
