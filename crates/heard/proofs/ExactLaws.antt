-- Where contents are told, a run delivers what is due for them.
use Rattle.std.proofs.Common.{◌≡◌, ℕ, List}
use Rattle.bank_files.specs.Seen.{Seen}
use Rattle.formats.specs.Heard.{Hearing}
use Rattle.due.specs.declared.heard_due.HeardDue.{HeardDue}
use Rattle.due.specs.HeardRuns.{IsHeardDue, IsHeardRead, heard_plan}
use Rattle.due.specs.Inputs.{Contents, Input}
use Rattle.due.proofs.HeardDueLaws.{one_heard}
use Rattle.due.proofs.HeardReadLaws.{same_heard}
use Rattle.bank.specs.Ending.{Agrees, AreTold, Delivers, DeliversDue}
use Rattle.bank.proofs.EndingLaws.{delivered_exactly}
use Rattle.bank.proofs.ExactLaws.{bank_same}

all_same : (old : Seen) (words : List (List ℕ)) (some told : Contents) → Agrees (heard_plan words) old some → AreTold (heard_plan words) old told
    → (input : Input) (file : List ℕ) → IsHeardRead words some input file → some input ≡ told input
all_same old words some told agrees all input file (o, asks, read) =
    bank_same old o.config some told (λ n f r. agrees n f (o, asks, r)) (λ n f r. all n f (o, asks, r)) input file read

-- where the contents are told, it is what is due for them
pub run_exactly : (words : List (List ℕ)) (old new : Seen) (code : ℕ) → DeliversDue (heard_plan words) old new code
    → (contents : Contents) → AreTold (heard_plan words) old contents → (due : HeardDue Hearing) → IsHeardDue words contents due
    → Delivers (heard_plan words) old new due code
run_exactly words old new code delivers contents all due also =
    delivered_exactly (heard_plan words) (λ told a b. one_heard told words a b) (λ some other same d. (same_heard words some other same d).0) old new contents code
    (λ some agrees. all_same old words some contents agrees all) delivers due also
