-- Where contents are told, `judge` delivers what is due for them.
use Rattle.std.proofs.Common.{◌≡◌, ℕ, List, refl, sym, subst}
use Rattle.bank_files.specs.Told.{Finds, Told}
use Rattle.bank_files.specs.Seen.{Seen}
use Rattle.due.specs.Banks.{bank_of, window_of}
use Rattle.due.specs.Inputs.{CertificateAt, Contents, Input}
use Rattle.due.proofs.ReadLaws.{loaded_too}
use Rattle.sweep_due.specs.CertificateNames.{file_at}
use Rattle.sweep_due.specs.Phases.{swept_offsets}
use Rattle.judge_due.specs.JudgeDues.{IsJudgeDue, IsJudgeRead, Reads_bank, Reads_certificate, files_in}
use Rattle.judge_due.specs.JudgePlans.{judge_plan}
use Rattle.judge_due.specs.JudgeTexts.{JudgeOwed}
use Rattle.judge_due.proofs.FileLaws.{same_read}
use Rattle.judge_due.proofs.JudgeDueLaws.{TellsOne, one_judge_due}
use Rattle.judge_due.proofs.JudgeReadLaws.{same_judge_due}
use Rattle.bank.specs.Ending.{Agrees, AreTold, Delivers, DeliversDue}
use Rattle.bank.proofs.EndingLaws.{delivered_exactly}
use Rattle.bank.proofs.ExactLaws.{bank_same}

module _ (old : Seen) (words : List (List ℕ)) (some told : Contents) (agrees : Agrees (judge_plan words) old some) (all : AreTold (judge_plan words) old told) where
  all_same : (input : Input) (file : List ℕ) → IsJudgeRead words some input file → some input ≡ told input
  all_same input file (Reads_bank o asks read) =
      bank_same old o.config some told (λ n f r. agrees n f (Reads_bank o asks r)) (λ n f r. all n f (Reads_bank o asks r)) input file read
  all_same input file (Reads_certificate o asks config records loaded i read is name) =
      let same = bank_same old o.config some told (λ n f r. agrees n f (Reads_bank o asks r)) (λ n f r. all n f (Reads_bank o asks r)) in
      let also = loaded_too o.config some told same config records loaded in
      let bank = bank_of config records in
      let window = window_of o.asked bank.receivers in
      subst (λ (n : Input). some n ≡ told n) (sym is)
      (same_read window bank (files_in some) (files_in told) (swept_offsets window.phase)
      (λ j r s. subst (λ (t : Told). Finds t (λ bytes. some (CertificateAt j) ≡ bytes))
      (all (CertificateAt j) (file_at o.name j) (Reads_certificate o asks config records also j s refl refl))
      (agrees (CertificateAt j) (file_at o.name j) (Reads_certificate o asks config records loaded j r refl refl))) i read)

-- where the contents are told, it is what is due for them
pub judge_exactly : TellsOne → (words : List (List ℕ)) (old new : Seen) (code : ℕ) → DeliversDue (judge_plan words) old new code
    → (contents : Contents) → AreTold (judge_plan words) old contents → (owed : JudgeOwed) → IsJudgeDue words contents owed
    → Delivers (judge_plan words) old new owed code
judge_exactly tells_one words old new code delivers contents all owed also =
    delivered_exactly (judge_plan words) (λ told a b. one_judge_due told tells_one words a b) (λ some other same d. (same_judge_due words some other same d).0) old new contents code
    (λ some agrees. all_same old words some contents agrees all) delivers owed also
