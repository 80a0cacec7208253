-- Each half of a share is less.
use Rattle.workers.proofs.sharing.+halves.Given as goal

abbrev pub decreases-join_mut+arg2 : goal.decreases-join_mut+arg2
decreases-join_mut+arg2 g l = l.left

abbrev pub decreases-join_mut+arg3 : goal.decreases-join_mut+arg3
decreases-join_mut+arg3 g l = l.right

abbrev pub decreases-share_out : goal.decreases-share_out
decreases-share_out g l = l.share
