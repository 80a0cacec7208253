-- Where contents are told, a run delivers what is due for them.
use Rattle.std.proofs.Common.{◌≡◌, ℕ, List, [], ◌∷◌, inl, inr, refl, subst}
use Rattle.bank_files.specs.Told.{Finds, Holds, Told}
use Rattle.bank_files.specs.Seen.{Seen}
use Rattle.due.specs.Configurations.{IsConfiguration, logs_of}
use Rattle.due.specs.Inputs.{Configuration, Contents, Input, LogOf}
use Rattle.due.specs.LogFiles.{IsGood, IsLogRead, LogFile}
use Rattle.due.specs.Plans.{run_plan}
use Rattle.due.specs.Loads.{IsBankRead, Reads_configuration, Reads_log}
use Rattle.due.specs.Owed.{IsOwed, Owed}
use Rattle.due.specs.Rules.{IsRead}
use Rattle.due.proofs.OwedLaws.{one_thing}
use Rattle.due.proofs.ReadLaws.{same_owed}
use Rattle.bank.specs.Ending.{Agrees, AreTold, Delivers, DeliversDue}
use Rattle.bank.specs.Loading.{BankAgrees}
use Rattle.bank.proofs.EndingLaws.{delivered_exactly}

-- what was found of a bank's files, and what they are told to hold
module _ (old : Seen) (name : List ℕ) (some told : Contents) (agrees : BankAgrees old name some)
    (all : (input : Input) (file : List ℕ) → IsBankRead name told input file → old.told file ≡ Holds (told input)) where
  -- a file that is read for both holds the same for both
  same_here : (input : Input) (file : List ℕ) → IsBankRead name some input file → IsBankRead name told input file → some input ≡ told input
  same_here input file read also = subst (λ (t : Told). Finds t (λ bytes. some input ≡ bytes)) (all input file also) (agrees input file read)

  logs_same : (logs : List LogFile) → ((n : Input) (f : List ℕ) → IsLogRead some logs n f → IsBankRead name some n f)
      → ((n : Input) (f : List ℕ) → IsLogRead told logs n f → IsBankRead name told n f)
      → (input : Input) (file : List ℕ) → IsLogRead some logs input file → some input ≡ told input
  logs_same [] for_some for_told input file none = absurd none
  logs_same (log ∷ logs) for_some for_told input file (inl here) = same_here input file (for_some input file (inl here)) (for_told input file (inl here))
  logs_same (log ∷ logs) for_some for_told input file (inr later) =
      let same = same_here (LogOf log.receiver) log.file (for_some (LogOf log.receiver) log.file (inl (refl, refl))) (for_told (LogOf log.receiver) log.file (inl (refl, refl))) in
      logs_same logs (λ n f r. for_some n f (inr (later.0, later.1, r)))
      (λ n f r. for_told n f (inr (later.0, subst (λ (b : List ℕ). IsGood b later.0) same later.1, r))) input file later.2

  pub bank_same : (input : Input) (file : List ℕ) → IsBankRead name some input file → some input ≡ told input
  bank_same input file (Reads_configuration e f) = same_here input file (Reads_configuration e f) (Reads_configuration e f)
  bank_same input file (Reads_log config says read) =
      let first = same_here Configuration name (Reads_configuration refl refl) (Reads_configuration refl refl) in
      logs_same (logs_of config) (λ n f r. Reads_log config says r)
      (λ n f r. Reads_log config (subst (λ (b : List ℕ). IsConfiguration b config) first says) r) input file read

all_same : (old : Seen) (words : List (List ℕ)) (some told : Contents) → Agrees (run_plan words) old some → AreTold (run_plan words) old told
    → (input : Input) (file : List ℕ) → IsRead words some input file → some input ≡ told input
all_same old words some told agrees all input file (o, asks, read) =
    bank_same old o.config some told (λ n f r. agrees n f (o, asks, r)) (λ n f r. all n f (o, asks, r)) input file read

-- where the contents are told, it is what is due for them
pub run_exactly : (words : List (List ℕ)) (old new : Seen) (code : ℕ) → DeliversDue (run_plan words) old new code
    → (contents : Contents) → AreTold (run_plan words) old contents → (owed : Owed) → IsOwed words contents owed → Delivers (run_plan words) old new owed code
run_exactly words old new code delivers contents all owed also =
    delivered_exactly (run_plan words) (λ told a b. one_thing told words a b) (λ some other same d. (same_owed words some other same d).0) old new contents code
    (λ some agrees. all_same old words some contents agrees all) delivers owed also
