-- What is found due of `follow`, and what a file that fails is of.
use Rattle.std.proofs.Common.{ℕ, List, refl, ap, subst}
use Rattle.definitions.specs.heard.Logs.{Records}
use Rattle.formats.specs.declared.refusal.Refusal.{Refusal}
use Rattle.bank_files.specs.Seen.{Seen}
use Rattle.bank_config.specs.Configuration.{PlainConfig}
use Rattle.due.specs.declared.due.Due.TheVariants.{Refused}
use Rattle.due.specs.Banks.{bank_of}
use Rattle.due.specs.Inputs.{Contents, Input}
use Rattle.due.specs.Loads.{IsBankRead}
use Rattle.follow_due.specs.declared.follow_due.FollowDue.{FollowDue}
use Rattle.follow_due.specs.declared.follow_due.FollowDue.TheVariants.{Told}
use Rattle.follow_due.specs.FollowOrders.{AsksFollow, FollowOrder}
use Rattle.follow_due.specs.FollowPlans.{follow_plan}
use Rattle.follow_due.specs.FollowRules.{Answered, Bad_bank, IsFollowRead, IsFollowed}
use Rattle.follow_due.proofs.OrderLaws.{one_order}
use Rattle.bank.specs.Ending.{IsFound, SomeReadFails}
use Rattle.bank.specs.Loading.{FailsLoading, IsLoaded, IsRefusedLoading}

module _ (words : List (List ℕ)) (o : FollowOrder) (asks : AsksFollow words o) where
  -- what is read is read of the bank that is asked about
  read_of_bank : (contents : Contents) (input : Input) (file : List ℕ) → IsFollowRead words contents input file → IsBankRead o.config contents input file
  read_of_bank contents input file (p, also, read) =
      subst (λ (name : List ℕ). IsBankRead name contents input file) (ap (λ (q : FollowOrder). q.config) (one_order words p o also asks)) read

  -- what is told of what was loaded
  pub answer_found : (old : Seen) (config : PlainConfig) (records : List Records) (due : FollowDue) → IsLoaded old o.config config records
      → IsFollowed o (bank_of config records) due → IsFound (follow_plan words) old due
  answer_found old config records due (contents, agrees, loaded) told =
      (contents, (λ input file read. agrees input file (read_of_bank contents input file read)), Answered o asks config records loaded told)

  -- what is refused of what was loaded
  pub refusal_found : (old : Seen) (refusal : Refusal) → IsRefusedLoading old o.config refusal → IsFound (follow_plan words) old (Told (Refused refusal))
  refusal_found old refusal (contents, agrees, bad) =
      (contents, (λ input file read. agrees input file (read_of_bank contents input file read)), Bad_bank o asks refusal bad refl)

  -- a file failed while a configuration and its logs were loaded
  pub failure_found : (old new : Seen) → FailsLoading old new o.config → SomeReadFails (follow_plan words) old new
  failure_found old new (contents, input, file, may, read, fails) =
      (contents, input, file, (λ n f r. may n f (read_of_bank contents n f r)), (o, asks, read), fails)
