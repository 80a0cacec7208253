-- Where contents are told, `check` delivers what is due for them.
use Rattle.std.proofs.Common.{◌≡◌, ℕ, List, subst}
use Rattle.bank_files.specs.Told.{Finds, Told}
use Rattle.bank_files.specs.Seen.{Seen}
use Rattle.due.specs.Inputs.{Certificate, Contents, Input}
use Rattle.check_due.specs.declared.check_owed.CheckOwed.{CheckOwed}
use Rattle.check_due.specs.CheckPlans.{check_plan}
use Rattle.check_due.specs.CheckRules.{IsCheckDue, IsCheckRead, Reads_bank, Reads_certificate}
use Rattle.check_due.proofs.CheckDueLaws.{TellsOne, one_check_due}
use Rattle.check_due.proofs.CheckReadLaws.{same_check_due}
use Rattle.due.proofs.ReadLaws.{loaded_too}
use Rattle.bank.specs.Ending.{Agrees, AreTold, Delivers, DeliversDue}
use Rattle.bank.proofs.EndingLaws.{delivered_exactly}
use Rattle.bank.proofs.ExactLaws.{bank_same}

module _ (old : Seen) (words : List (List ℕ)) (some told : Contents) (agrees : Agrees (check_plan words) old some) (all : AreTold (check_plan words) old told) where
  all_same : (input : Input) (file : List ℕ) → IsCheckRead words some input file → some input ≡ told input
  all_same input file (Reads_bank o asks read) =
      bank_same old o.config some told (λ n f r. agrees n f (Reads_bank o asks r)) (λ n f r. all n f (Reads_bank o asks r)) input file read
  all_same input file (Reads_certificate o asks config records loaded is name) =
      let same = bank_same old o.config some told (λ n f r. agrees n f (Reads_bank o asks r)) (λ n f r. all n f (Reads_bank o asks r)) in
      let also = loaded_too o.config some told same config records loaded in
      subst (λ (t : Told). Finds t (λ bytes. some input ≡ bytes)) (all input file (Reads_certificate o asks config records also is name))
      (agrees input file (Reads_certificate o asks config records loaded is name))

-- where the contents are told, it is what is due for them
pub check_exactly : TellsOne → (words : List (List ℕ)) (old new : Seen) (code : ℕ) → DeliversDue (check_plan words) old new code
    → (contents : Contents) → AreTold (check_plan words) old contents → (owed : CheckOwed) → IsCheckDue words contents owed
    → Delivers (check_plan words) old new owed code
check_exactly tells_one words old new code delivers contents all owed also =
    delivered_exactly (check_plan words) (λ told a b. one_check_due told tells_one words a b) (λ some other same d. (same_check_due words some other same d).0) old new contents code
    (λ some agrees. all_same old words some contents agrees all) delivers owed also
