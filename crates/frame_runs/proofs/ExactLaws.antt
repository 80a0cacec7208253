-- Where contents are told, a command of frames delivers what is due for them.
use Rattle.std.proofs.Common.{◌≡◌, ℕ, List, subst}
use Rattle.bank_files.specs.Told.{Finds, Told}
use Rattle.bank_files.specs.Seen.{Seen}
use Rattle.due.specs.declared.frame_due.FrameDue.{FrameDue}
use Rattle.due.specs.FrameRules.{IsFrameDue, IsFrameRead, Reads_bank, Reads_frames}
use Rattle.due.specs.Inputs.{Contents, Input}
use Rattle.due.specs.Plans.{frame_plan}
use Rattle.due.proofs.FrameDueLaws.{one_frame_due}
use Rattle.due.proofs.FrameReadLaws.{same_frame_due}
use Rattle.bank.specs.Ending.{Agrees, AreTold, Delivers, DeliversDue}
use Rattle.bank.proofs.EndingLaws.{delivered_exactly}
use Rattle.bank.proofs.ExactLaws.{bank_same}

all_same : (old : Seen) (words : List (List ℕ)) (some told : Contents) → Agrees (frame_plan words) old some → AreTold (frame_plan words) old told
    → (input : Input) (file : List ℕ) → IsFrameRead words some input file → some input ≡ told input
all_same old words some told agrees all input file (Reads_bank config asked asks read) =
    bank_same old config some told (λ n f r. agrees n f (Reads_bank config asked asks r)) (λ n f r. all n f (Reads_bank config asked asks r)) input file read
all_same old words some told agrees all input file (Reads_frames asks is) =
    subst (λ (t : Told). Finds t (λ bytes. some input ≡ bytes)) (all input file (Reads_frames asks is)) (agrees input file (Reads_frames asks is))

-- where the contents are told, it is what is due for them
pub irig_exactly : (words : List (List ℕ)) (old new : Seen) (code : ℕ) → DeliversDue (frame_plan words) old new code
    → (contents : Contents) → AreTold (frame_plan words) old contents → (due : FrameDue) → IsFrameDue words contents due
    → Delivers (frame_plan words) old new due code
irig_exactly words old new code delivers contents all due also =
    delivered_exactly (frame_plan words) (λ told a b. one_frame_due told words a b) (λ some other same d. (same_frame_due words some other same d).0) old new contents code
    (λ some agrees. all_same old words some contents agrees all) delivers due also
