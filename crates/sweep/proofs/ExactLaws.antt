-- Where contents are told, `sweep` delivers what is due for them.
use Rattle.std.proofs.Common.{◌≡◌, ℕ, List}
use Rattle.bank_files.specs.Seen.{Seen}
use Rattle.due.specs.Inputs.{Contents, Input}
use Rattle.sweep_due.specs.SweepPlans.{sweep_plan}
use Rattle.sweep_due.specs.SweepOwed.{IsSweepOwed, SweepOwed}
use Rattle.sweep_due.specs.SweepRules.{IsSweepRead}
use Rattle.sweep_due.proofs.CertificatesLaws.{one_thing}
use Rattle.sweep_due.proofs.SweepReadLaws.{same_sweep_owed}
use Rattle.bank.specs.Ending.{Agrees, AreTold, Delivers, DeliversDue}
use Rattle.bank.proofs.EndingLaws.{delivered_exactly}
use Rattle.bank.proofs.ExactLaws.{bank_same}

all_same : (old : Seen) (words : List (List ℕ)) (some told : Contents) → Agrees (sweep_plan words) old some → AreTold (sweep_plan words) old told
    → (input : Input) (file : List ℕ) → IsSweepRead words some input file → some input ≡ told input
all_same old words some told agrees all input file (o, asks, read) =
    bank_same old o.config some told (λ n f r. agrees n f (o, asks, r)) (λ n f r. all n f (o, asks, r)) input file read

-- where the contents are told, it is what is due for them
pub sweep_exactly : (words : List (List ℕ)) (old new : Seen) (code : ℕ) → DeliversDue (sweep_plan words) old new code
    → (contents : Contents) → AreTold (sweep_plan words) old contents → (owed : SweepOwed) → IsSweepOwed words contents owed
    → Delivers (sweep_plan words) old new owed code
sweep_exactly words old new code delivers contents all owed also =
    delivered_exactly (sweep_plan words) (λ told a b. one_thing told words a b) (λ some other same d. (same_sweep_owed words some other same d).0) old new contents code
    (λ some agrees. all_same old words some contents agrees all) delivers owed also
