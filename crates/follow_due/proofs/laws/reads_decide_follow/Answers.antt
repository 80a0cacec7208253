-- The law, from its lemmas.
use Rattle.follow_due.proofs.FollowReadLaws.{same_follow_due, same_follow_reads}
use Rattle.follow_due.proofs.laws.reads_decide_follow.Goals as goal

pub returns : goal.returns
returns c = record { due = same_follow_due; reads = same_follow_reads }
