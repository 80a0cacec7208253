-- The law, from its lemmas.
use Rattle.follow_due.proofs.FollowDueLaws.{no_follow_failure_is_due}
use Rattle.follow_due.proofs.laws.no_failure_is_due_of_follow.Goals as goal

pub returns : goal.returns
returns c = record { failed = λ due. (no_follow_failure_is_due due).0; memory = λ due. (no_follow_failure_is_due due).1 }
