-- Where contents are told, `follow` delivers what is due for them.
use Rattle.std.proofs.Common.{◌≡◌, ℕ, List}
use Rattle.bank_files.specs.Seen.{Seen}
use Rattle.due.specs.Inputs.{Contents, Input}
use Rattle.follow_due.specs.declared.follow_due.FollowDue.{FollowDue}
use Rattle.follow_due.specs.FollowPlans.{follow_plan}
use Rattle.follow_due.specs.FollowRules.{IsFollowDue, IsFollowRead}
use Rattle.follow_due.proofs.FollowDueLaws.{one_follow_due}
use Rattle.follow_due.proofs.FollowReadLaws.{same_follow_due}
use Rattle.bank.specs.Ending.{Agrees, AreTold, Delivers, DeliversDue}
use Rattle.bank.proofs.EndingLaws.{delivered_exactly}
use Rattle.bank.proofs.ExactLaws.{bank_same}

all_same : (old : Seen) (words : List (List ℕ)) (some told : Contents) → Agrees (follow_plan words) old some → AreTold (follow_plan words) old told
    → (input : Input) (file : List ℕ) → IsFollowRead words some input file → some input ≡ told input
all_same old words some told agrees all input file (o, asks, read) =
    bank_same old o.config some told (λ n f r. agrees n f (o, asks, r)) (λ n f r. all n f (o, asks, r)) input file read

-- where the contents are told, it is what is due for them
pub follow_exactly : (words : List (List ℕ)) (old new : Seen) (code : ℕ) → DeliversDue (follow_plan words) old new code
    → (contents : Contents) → AreTold (follow_plan words) old contents → (due : FollowDue) → IsFollowDue words contents due
    → Delivers (follow_plan words) old new due code
follow_exactly words old new code delivers contents all due also =
    delivered_exactly (follow_plan words) (λ told a b. one_follow_due told words a b) (λ some other same d. (same_follow_due words some other same d).0) old new contents code
    (λ some agrees. all_same old words some contents agrees all) delivers due also
