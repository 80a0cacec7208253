-- The law, from its lemmas.
use Rattle.follow_due.proofs.FollowDueLaws.{one_follow_due, some_follow_due}
use Rattle.follow_due.proofs.laws.one_thing_is_due_of_follow.Goals as goal

pub returns : goal.returns
returns c = record { some = λ words contents. some_follow_due contents words; one = λ words contents. one_follow_due contents words }
