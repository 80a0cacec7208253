-- A configuration and its logs are loaded, or why not.
use Rattle.std.proofs.Common.{◌≡◌, ◌≢◌, ℕ, suc, List, [], ◌∷◌, length, Option, Some, None, ⊎_elim, refl, sym, ap, ◌∙◌, subst}
use Rattle.definitions.specs.heard.Logs.{Records}
use Rattle.bank_files.specs.Told.{Finds, Told}
use Rattle.bank_files.specs.Fault.{HasFault}
use Rattle.bank_files.specs.Seen.{ReadFails, SameCounts, Seen}
use Rattle.bank_config.specs.Configuration.{PlainConfig, PlainReceiver}
use Rattle.bank_config.specs.declared.fault.ConfigFault.{ConfigFault}
use Rattle.bank_config.specs.declared.fault.ConfigFault.TheVariants as faults
use Rattle.due.specs.Configurations.{IsBadConfiguration, IsConfiguration, fault_refusal, logs_of}
use Rattle.due.specs.Inputs.{Configuration, Contents, Input}
use Rattle.due.specs.Loads.{Bad_configuration, Bad_log, Reads_configuration, Reads_log}
use Rattle.due.specs.LogFiles.{IsLogRead}
use Rattle.due.proofs.ConfigurationLaws.{not_both, one_configuration, text_has_outcome}
use Rattle.formats.specs.declared.refusal.Refusal.{Refusal}
use Rattle.bank.specs.Ending.{MayHold}
use Rattle.bank.specs.declared.loading.Unloaded.{Unloaded}
use Rattle.bank.specs.declared.loading.Unloaded.TheVariants.{Failed, NoMemory, Refused}
use Rattle.bank.specs.Loading.{AreNotRead, AreRead, BankAgrees, BankMayBeRead, FailsLoading, IsLoaded, IsNotLoaded, IsNotRead, IsReadAs}
use Rattle.bank.proofs.ContentLaws.{LogsAgree, LogsMayBeRead, failing_contents, found_may_hold, found_same, good_contents, may_contents, refused_contents, told_bytes, told_may_hold}

pub same_counts : (old mid new : Seen) → SameCounts old mid → SameCounts mid new → SameCounts old new
same_counts old mid new first second = record { of_reads = second.of_reads ∙ first.of_reads; of_writes = second.of_writes ∙ first.of_writes }

-- one log for each receiver
pub read_length : (old : Seen) (rs : List PlainReceiver) (logs : List Records) → AreRead old rs logs → length logs ≡ length rs
read_length old [] logs are = ap length are
read_length old (r ∷ rs) [] are = absurd are
read_length old (r ∷ rs) (log ∷ logs) are = ap suc (read_length old rs logs are.1)

module _ (old : Seen) (name : List ℕ) (contents : Contents) where
  -- what is told of the configuration's file and of its logs' agrees with the contents
  good_agrees : (config : PlainConfig) → Finds (old.told name) (λ held. contents Configuration ≡ held) → IsConfiguration (contents Configuration) config
      → LogsAgree old contents (logs_of config) → BankAgrees old name contents
  good_agrees config found says logs input file (Reads_configuration e f) =
      subst (λ (n : Input). Finds (old.told file) (λ held. contents n ≡ held)) (sym e)
      (subst (λ (f : List ℕ). Finds (old.told f) (λ held. contents Configuration ≡ held)) (sym f) found)
  good_agrees config found says logs input file (Reads_log other is read) =
      logs input file (subst (λ (c : PlainConfig). IsLogRead contents (logs_of c) input file) (one_configuration (contents Configuration) other config is says) read)

  good_may : (config : PlainConfig) → MayHold (old.told name) (contents Configuration) → IsConfiguration (contents Configuration) config
      → LogsMayBeRead old contents (logs_of config) → BankMayBeRead old name contents
  good_may config may says logs input file (Reads_configuration e f) =
      subst (λ (n : Input). MayHold (old.told file) (contents n)) (sym e) (subst (λ (f : List ℕ). MayHold (old.told f) (contents Configuration)) (sym f) may)
  good_may config may says logs input file (Reads_log other is read) =
      logs input file (subst (λ (c : PlainConfig). IsLogRead contents (logs_of c) input file) (one_configuration (contents Configuration) other config is says) read)

  -- of a bad configuration no log is read
  bad_agrees : (refusal : Refusal) → Finds (old.told name) (λ held. contents Configuration ≡ held) → IsBadConfiguration (contents Configuration) refusal
      → BankAgrees old name contents
  bad_agrees refusal found bad input file (Reads_configuration e f) =
      subst (λ (n : Input). Finds (old.told file) (λ held. contents n ≡ held)) (sym e)
      (subst (λ (f : List ℕ). Finds (old.told f) (λ held. contents Configuration ≡ held)) (sym f) found)
  bad_agrees refusal found bad input file (Reads_log other is read) = absurd (not_both (contents Configuration) other refusal is bad)

  bad_may : (refusal : Refusal) → MayHold (old.told name) (contents Configuration) → IsBadConfiguration (contents Configuration) refusal
      → BankMayBeRead old name contents
  bad_may refusal may bad input file (Reads_configuration e f) =
      subst (λ (n : Input). MayHold (old.told file) (contents n)) (sym e) (subst (λ (f : List ℕ). MayHold (old.told f) (contents Configuration)) (sym f) may)
  bad_may refusal may bad input file (Reads_log other is read) = absurd (not_both (contents Configuration) other refusal is bad)

-- the configuration's file failed, whatever it holds
configuration_fails : (old new : Seen) (name : List ℕ) → ReadFails name old new → FailsLoading old new name
configuration_fails old new name fails =
    let bytes = told_bytes (old.told name) in
    ⊎_elim
    (λ good.
    let all = may_contents old 1 good.0.receivers (λ _. bytes) in
    let first : all.0 Configuration ≡ bytes = all.1.0 in (
      all.0,
      Configuration,
      name,
      good_may old name all.0 good.0 (subst (λ (b : List ℕ). MayHold (old.told name) b) (sym first) (told_may_hold (old.told name)))
          (subst (λ (b : List ℕ). IsConfiguration b good.0) (sym first) good.1) all.2,
      Reads_configuration refl refl,
      fails,
    ))
    (λ bad. (
      λ _. bytes,
      Configuration,
      name,
      bad_may old name (λ _. bytes) bad.0 (told_may_hold (old.told name)) bad.1,
      Reads_configuration refl refl,
      fails,
    ))
    (text_has_outcome bytes)

-- the configuration isn't read
pub configuration_not_read : (old new : Seen) (name : List ℕ) (why : Unloaded) → IsNotRead old new name IsBadConfiguration why → IsNotLoaded old new name why
configuration_not_read old new name (Refused refusal) is =
    (((λ _. is.0.0), bad_agrees old name (λ _. is.0.0) refusal is.0.1 is.0.2, Bad_configuration is.0.2), is.1)
configuration_not_read old new name Failed is = configuration_fails old new name is
configuration_not_read old new name NoMemory is = is

module _ (old mid : Seen) (name : List ℕ) (config : PlainConfig) (same : mid.told ≡ old.told) (read : IsReadAs old name (λ bytes. IsConfiguration bytes config)) where
  -- the configuration is read, and its logs too
  pub all_read : (logs : List Records) → AreRead mid config.receivers logs → IsLoaded old name config logs
  all_read logs are =
      let all = good_contents mid 1 config.receivers logs (λ _. read.0) are in
      let first : all.0 Configuration ≡ read.0 = all.1.0 in
      let says = subst (λ (b : List ℕ). IsConfiguration b config) (sym first) read.2 in (
        all.0,
        good_agrees old name all.0 config (found_same (old.told name) (all.0 Configuration) read.0 first read.1) says
            (λ n f r. subst (λ (told : List ℕ → Told). Finds (told f) (λ held. all.0 n ≡ held)) same (all.3 n f r)),
        record { says = says; good = all.2 },
      )

  -- or a log isn't
  pub logs_not_read : (new : Seen) (why : Unloaded) → SameCounts old mid → AreNotRead mid new 1 config.receivers why → IsNotLoaded old new name why
  logs_not_read new (Refused refusal) counts is =
      let all = refused_contents mid 1 config.receivers refusal (λ _. read.0) is.0 in
      let first : all.0 Configuration ≡ read.0 = all.1.0 in
      let says = subst (λ (b : List ℕ). IsConfiguration b config) (sym first) read.2 in (
        (
          all.0,
          good_agrees old name all.0 config (found_same (old.told name) (all.0 Configuration) read.0 first read.1) says
              (λ n f r. subst (λ (told : List ℕ → Told). Finds (told f) (λ held. all.0 n ≡ held)) same (all.3 n f r)),
          Bad_log config says all.2,
        ),
        same_counts old mid new counts is.1,
      )
  logs_not_read new Failed counts is =
      let all = failing_contents mid new 1 config.receivers (λ _. read.0) is in
      let first : all.0 Configuration ≡ read.0 = all.1.0 in
      let says = subst (λ (b : List ℕ). IsConfiguration b config) (sym first) read.2 in (
        all.0,
        all.2,
        all.3,
        good_may old name all.0 config (subst (λ (b : List ℕ). MayHold (old.told name) b) (sym first) (found_may_hold (old.told name) read.0 read.1)) says
            (λ n f r. subst (λ (told : List ℕ → Told). MayHold (told f) (all.0 n)) same (all.6 n f r)),
        Reads_log config says all.4,
        subst (λ (counts : List ℕ → ℕ). HasFault (counts all.3) (new.read_faults all.3)) counts.of_reads all.5,
      )
  logs_not_read new NoMemory counts is = same_counts old mid new counts is

-- a fault that gets a line is one of the text
pub is_of_text : (fault : ConfigFault) (refusal : Refusal) → fault_refusal fault ≡ Some refusal → fault ≢ faults.NoMemory
is_of_text fault refusal line e = no_line (sym (ap fault_refusal e) ∙ line)
  where
    no_line : ◌≡◌ {A = Option Refusal} None (Some refusal) → ⊥
    no_line e = cc
