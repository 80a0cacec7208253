-- What is found due, and what a file that fails is of.
use Rattle.std.proofs.Common.{◌≡◌, ℕ, List, Ok, Err, refl, ap, subst}
use Rattle.definitions.specs.heard.Logs.{Records}
use Rattle.formats.specs.declared.refusal.Refusal.{Refusal}
use Rattle.formats.specs.declared.words.WordFault.{WordFault}
use Rattle.formats.specs.Orders.{Checked, Order}
use Rattle.bank_files.specs.Seen.{Seen}
use Rattle.bank_config.specs.Configuration.{PlainConfig}
use Rattle.due.specs.declared.due.Due.TheVariants as dues
use Rattle.due.specs.declared.heard_due.HeardDue.{HeardDue}
use Rattle.due.specs.declared.heard_due.HeardDue.TheVariants.{Told}
use Rattle.due.specs.Banks.{bank_of}
use Rattle.due.specs.HeardRuns.{AsksHeard, Answered, Bad_bank, IsHeardRead, heard_order}
use Rattle.due.specs.Inputs.{Contents, Input}
use Rattle.due.specs.Loads.{IsBankRead}
use Rattle.due.specs.Orders.{BankOrder}
use Rattle.due.proofs.HeardWordLaws.{one_asked}
use Rattle.bank.specs.Ending.{IsFound, SomeReadFails}
use Rattle.bank.specs.Loading.{FailsLoading, IsLoaded, IsRefusedLoading}
use Rattle.heard.specs.declared.hearing.Hearing.{Hearing}
use Rattle.heard.specs.Seen.{IsShownFor, due_seen, kept_plan}

module _ (words : List (List ℕ)) (o : BankOrder) (asks : AsksHeard words o) where
  -- what the run reads is what is read of the bank that is asked about
  read_of_bank : (contents : Contents) (input : Input) (file : List ℕ) → IsHeardRead words contents input file → IsBankRead o.config contents input file
  read_of_bank contents input file (p, also, read) =
      subst (λ (name : List ℕ). IsBankRead name contents input file) (ap (λ (b : BankOrder). b.config) (one_asked words p o also asks)) read

  -- what is shown of what was loaded
  pub shown_found : (old : Seen) (config : PlainConfig) (records : List Records) (due : HeardDue Hearing) → IsLoaded old o.config config records
      → IsShownFor o.asked (bank_of config records) (due_seen due) → IsFound (kept_plan words) old due
  shown_found old config records due (contents, agrees, loaded) is =
      (contents, λ input file read. agrees input file (read_of_bank contents input file read), Answered o asks config records loaded is)

  -- what is refused of it
  pub refusal_found : (old : Seen) (refusal : Refusal) → IsRefusedLoading old o.config refusal → IsFound (kept_plan words) old (Told (dues.Refused refusal))
  refusal_found old refusal (contents, agrees, bad) =
      (contents, λ input file read. agrees input file (read_of_bank contents input file read), Bad_bank o asks refusal bad refl)

  -- a file failed while a configuration and its logs were loaded
  pub failure_found : (old new : Seen) → FailsLoading old new o.config → SomeReadFails (kept_plan words) old new
  failure_found old new (contents, input, file, may, read, fails) =
      (contents, input, file, λ n f r. may n f (read_of_bank contents n f r), (o, asks, read), fails)

-- words that are refused read nothing
ok_or_err : (c : Checked Order) (order : Order) (fault : WordFault) → c ≡ Err fault → c ≡ Ok order → ⊥
ok_or_err c order fault e f = cc

pub refused_reads_nothing : (words : List (List ℕ)) (contents : Contents) (fault : WordFault) (input : Input) (file : List ℕ) → heard_order words ≡ Err fault → ¬ (IsHeardRead words contents input file)
refused_reads_nothing words contents fault input file bad (o, asks, read) = ok_or_err (heard_order words) asks.0 fault bad asks.1
