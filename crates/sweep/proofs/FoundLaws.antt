-- What is found due of `sweep`, and what a file that fails is of.
use Rattle.std.proofs.Common.{◌≡◌, ℕ, List, None, refl, ap, subst}
use Rattle.definitions.specs.heard.Logs.{Records}
use Rattle.formats.specs.declared.refusal.Refusal.{Refusal}
use Rattle.bank_files.specs.Seen.{Seen}
use Rattle.bank_config.specs.Configuration.{PlainConfig}
use Rattle.due.specs.declared.due.Due.TheVariants.{Refused}
use Rattle.due.specs.Banks.{bank_of}
use Rattle.due.specs.Inputs.{Contents, Input}
use Rattle.due.specs.Loads.{IsBankRead}
use Rattle.due.specs.declared.due.Due.{Due}
use Rattle.sweep_due.specs.SweepOrders.{AsksSweep, SweepOrder}
use Rattle.sweep_due.specs.SweepCertificates.{Not_asked, certificates_name}
use Rattle.sweep_due.specs.SweepOwed.{told_alone}
use Rattle.sweep_due.specs.SweepPlans.{sweep_plan}
use Rattle.sweep_due.specs.SweepRules.{Answered, Bad_bank, IsSweepRead, IsBankSwept}
use Rattle.sweep_due.proofs.OrderLaws.{one_order}
use Rattle.bank.specs.Ending.{IsFound, SomeReadFails, over}
use Rattle.bank.specs.Loading.{FailsLoading, IsLoaded, IsRefusedLoading}

module _ (words : List (List ℕ)) (o : SweepOrder) (asks : AsksSweep words o) where
  -- what is read is read of the bank that is asked about
  pub read_of_bank : (contents : Contents) (input : Input) (file : List ℕ) → IsSweepRead words contents input file → IsBankRead o.config contents input file
  read_of_bank contents input file (p, also, read) =
      subst (λ (name : List ℕ). IsBankRead name contents input file) (ap (λ (q : SweepOrder). q.config) (one_order words p o also asks)) read

  -- what is told of what was loaded
  pub answer_found : certificates_name words ≡ None → (old : Seen) (config : PlainConfig) (records : List Records) (due : Due) → IsLoaded old o.config config records
      → IsBankSwept o (bank_of config records) due → IsFound (over told_alone (sweep_plan words)) old due
  answer_found none old config records due (contents, agrees, loaded) told = (
    contents,
    λ input file read. agrees input file (read_of_bank contents input file read),
    record { due_is = Answered o asks config records loaded told; certificates_are = Not_asked none refl },
  )

  -- what is refused of what was loaded
  pub refusal_found : certificates_name words ≡ None → (old : Seen) (refusal : Refusal) → IsRefusedLoading old o.config refusal
      → IsFound (over told_alone (sweep_plan words)) old (Refused refusal)
  refusal_found none old refusal (contents, agrees, bad) = (
    contents,
    λ input file read. agrees input file (read_of_bank contents input file read),
    record { due_is = Bad_bank o asks refusal bad refl; certificates_are = Not_asked none refl },
  )

  -- a file failed while a configuration and its logs were loaded
  pub failure_found : (old new : Seen) → FailsLoading old new o.config → SomeReadFails (over told_alone (sweep_plan words)) old new
  failure_found old new (contents, input, file, may, read, fails) =
      (contents, input, file, (λ n f r. may n f (read_of_bank contents n f r)), (o, asks, read), fails)
