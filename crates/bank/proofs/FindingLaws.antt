-- What is found due, and what a file that fails is of.
use Rattle.std.proofs.Common.{◌≡◌, ℕ, Bool, List, [], Some, None, Ok, refl, sym, ap, subst}
use Rattle.signal_base.specs.declared.station.Station.{Station}
use Rattle.definitions.specs.heard.Logs.{Records}
use Rattle.formats.specs.declared.refusal.Refusal.{Refusal}
use Rattle.formats.specs.Orders.{Order}
use Rattle.formats.specs.Orders.Order.{Decode, Check, Feed, Encode, Trial, Follow, Sweep, Judge, Board, Irig, IrigRead}
use Rattle.bank_files.specs.Seen.{Seen}
use Rattle.bank_config.specs.Configuration.{PlainConfig}
use Rattle.due.specs.declared.due.Due.{Due}
use Rattle.due.specs.declared.due.Due.TheVariants as dues
use Rattle.due.specs.Banks.{bank_of}
use Rattle.due.specs.CertificateRules.{Not_asked, certificate_name, name_asked}
use Rattle.due.specs.Inputs.{Contents, Input}
use Rattle.due.specs.Loads.{IsBankRead}
use Rattle.due.specs.Owed.{told_alone}
use Rattle.due.specs.Plans.{run_plan}
use Rattle.due.specs.Orders.{BankOrder, Report, Sentences, Wanted as PlainWanted, bank_order, order_in}
use Rattle.due.specs.Rules.{AsksBank, IsRead, IsReported, Listed, Tried, Bad_bank, Answered}
use Rattle.due.proofs.FileLaws.{listing_reads_nothing, trial_reads_nothing}
use Rattle.due.proofs.WordLaws.{bank_order_is_one}
use Rattle.bank.specs.declared.words.Wanted.{Wanted}
use Rattle.bank.specs.declared.words.Wanted.TheVariants as wanted
use Rattle.bank.specs.Ending.{IsFound, SomeReadFails, over}
use Rattle.bank.specs.Finding.{IsTried}
use Rattle.bank.specs.Loading.{FailsLoading, IsLoaded, IsRefusedLoading}
use Rattle.bank.specs.Tasks.{wanted_seen}
use Rattle.bank.proofs.EndingLaws.{found_at_once}

-- a listing reads no file
pub listing_found : (old : Seen) (words : List (List ℕ)) (station : Station) (minute : ℕ) (announced : Bool) → order_in words ≡ Ok (Encode station minute announced)
    → IsFound (over told_alone (run_plan words)) old (dues.Listing station minute announced)
listing_found old words station minute announced asks =
    found_at_once (over told_alone (run_plan words)) old (dues.Listing station minute announced)
    (record { due_is = Listed station minute announced asks refl; certificate_is = Not_asked (ap name_asked asks) refl })
    (λ input file. listing_reads_nothing words (λ _. []) station minute announced input file asks)

-- nor does a trial
pub trial_found : (old : Seen) (words : List (List ℕ)) (number workers : ℕ) (due : Due) → order_in words ≡ Ok (Trial number workers)
    → IsTried number due → IsFound (over told_alone (run_plan words)) old due
trial_found old words number workers due asks is =
    found_at_once (over told_alone (run_plan words)) old due
    (record { due_is = Tried number workers asks is.0 is.1 is.2; certificate_is = Not_asked (ap name_asked asks) refl })
    (λ input file. trial_reads_nothing words (λ _. []) number workers input file asks)

-- no certificate is wanted besides
abbrev pub ToldAlone : PlainWanted → Type 0
ToldAlone (Report None) = Unit {0}
ToldAlone (Report (Some name)) = ⊥
ToldAlone Sentences = Unit {0}

pub is_alone : (w : Wanted) → ToldAlone (wanted_seen w)
is_alone wanted.Report = tt
is_alone wanted.Sentences = tt

some_same : (o p : BankOrder) → Some o ≡ Some p → o ≡ p
some_same o p e = cc

names_none : (words : List (List ℕ)) (o : BankOrder) → AsksBank words o → ToldAlone o.wanted → certificate_name words ≡ None
names_none words o (order, is, asks) alone = by_order order is asks
  where
    by_order : (order : Order) → order_in words ≡ Ok order → bank_order order ≡ Some o → certificate_name words ≡ None
    by_order (Decode config asked workers None) e f = ap name_asked e
    by_order (Decode config asked workers (Some name)) e f = absurd (subst (λ (b : BankOrder). ToldAlone b.wanted) (sym (some_same _ o f)) alone)
    by_order (Check config certificate asked) e f = ap name_asked e
    by_order (Feed config asked workers) e f = ap name_asked e
    by_order (Encode station minute leap) e f = ap name_asked e
    by_order (Trial number workers) e f = ap name_asked e
    by_order (Follow config asked workers step count) e f = ap name_asked e
    by_order (Sweep config asked workers certificate) e f = ap name_asked e
    by_order (Judge config certificate asked) e f = ap name_asked e
    by_order (Board config queries asked workers step count readers) e f = ap name_asked e
    by_order (Irig config asked workers) e f = ap name_asked e
    by_order (IrigRead file) e f = ap name_asked e

module _ (words : List (List ℕ)) (o : BankOrder) (asks : AsksBank words o) where
  -- what the run reads is what is read of the bank that is asked about
  pub read_of_bank : (contents : Contents) (input : Input) (file : List ℕ) → IsRead words contents input file → IsBankRead o.config contents input file
  read_of_bank contents input file (p, also, read) =
      subst (λ (name : List ℕ). IsBankRead name contents input file) (ap (λ (b : BankOrder). b.config) (bank_order_is_one words p o also asks)) read

  -- the answer for what was loaded, and no certificate
  pub answer_found : ToldAlone o.wanted → (old : Seen) (config : PlainConfig) (records : List Records) (due : Due) → IsLoaded old o.config config records
      → IsReported o (bank_of config records) due → IsFound (over told_alone (run_plan words)) old due
  answer_found alone old config records due (contents, agrees, loaded) reported = (
    contents,
    λ input file read. agrees input file (read_of_bank contents input file read),
    record { due_is = Answered o asks config records loaded reported; certificate_is = Not_asked (names_none words o asks alone) refl },
  )

  -- what is refused of what was loaded
  pub refusal_found : ToldAlone o.wanted → (old : Seen) (refusal : Refusal) → IsRefusedLoading old o.config refusal
      → IsFound (over told_alone (run_plan words)) old (dues.Refused refusal)
  refusal_found alone old refusal (contents, agrees, bad) = (
    contents,
    λ input file read. agrees input file (read_of_bank contents input file read),
    record { due_is = Bad_bank o asks refusal bad refl; certificate_is = Not_asked (names_none words o asks alone) refl },
  )

  -- a file failed while a configuration and its logs were loaded
  pub failure_found : (old new : Seen) → FailsLoading old new o.config → SomeReadFails (over told_alone (run_plan words)) old new
  failure_found old new (contents, input, file, may, read, fails) =
      (contents, input, file, λ n f r. may n f (read_of_bank contents n f r), (o, asks, read), fails)
