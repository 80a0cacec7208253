-- What is found due of `check`, and what a file that fails is of.
use Rattle.std.proofs.Common.{◌≡◌, ℕ, List, Result, Err, refl, sym, ap, ◌∙◌, subst}
use Rattle.definitions.specs.heard.Logs.{Records}
use Rattle.formats.specs.declared.refusal.Refusal.{Refusal}
use Rattle.bank_files.specs.Fault.{HasFault}
use Rattle.bank_files.specs.Told.{Finds, Told}
use Rattle.bank_files.specs.Seen.{ReadFails, SameCounts, Seen}
use Rattle.bank_config.specs.Configuration.{PlainConfig}
use Rattle.due.specs.declared.check_due.CheckDue.{CheckDue}
use Rattle.due.specs.declared.due.Due.TheVariants.{Refused}
use Rattle.due.specs.Banks.{bank_of}
use Rattle.due.specs.CertificateRules.{AsksCheck, CheckOrder}
use Rattle.due.specs.Inputs.{Certificate, CertificateAt, Configuration, Contents, FramesText, Input, LogOf, QueriesText}
use Rattle.due.specs.Loads.{IsBankLoaded, IsBankRead}
use Rattle.due.proofs.DueLaws.{not_both}
use Rattle.due.proofs.ReadLaws.{bank_read_back, bank_read_too, loaded_too}
use Rattle.check_due.specs.declared.check_owed.CheckOwed.TheVariants as owes
use Rattle.check_due.specs.CheckPlans.{check_plan}
use Rattle.check_due.specs.CheckRules.{Bad_bank, IsBankChecked, IsCheckRead, Judged, Reads_bank, Reads_certificate}
use Rattle.check_due.proofs.CheckOrderLaws.{one_order}
use Rattle.check_due.proofs.CheckReadLaws.{bank_reads_no_certificate}
use Rattle.bank.specs.Ending.{IsFound, MayHold, SomeReadFails}
use Rattle.bank.specs.Loading.{BankAgrees, BankMayBeRead, FailsLoading, IsLoaded, IsReadAs, IsRefusedLoading}
use Rattle.bank.proofs.ContentLaws.{found_may_hold, told_bytes, told_may_hold}

-- the contents with these bytes as the certificate
abbrev pub with_certificate : Contents → List ℕ → Contents
with_certificate base bytes Configuration = base Configuration
with_certificate base bytes (LogOf k) = base (LogOf k)
with_certificate base bytes Certificate = bytes
with_certificate base bytes (CertificateAt i) = base (CertificateAt i)
with_certificate base bytes FramesText = base FramesText
with_certificate base bytes QueriesText = base QueriesText

module _ (name : List ℕ) (base : Contents) (bytes : List ℕ) where
  -- nothing that is read of a bank is changed by it
  kept : (input : Input) (file : List ℕ) → IsBankRead name base input file → base input ≡ with_certificate base bytes input
  kept Configuration file read = refl
  kept (LogOf k) file read = refl
  kept Certificate file read = absurd (bank_reads_no_certificate name base file read)
  kept (CertificateAt i) file read = refl
  kept FramesText file read = refl
  kept QueriesText file read = refl

  loaded_still : (config : PlainConfig) (records : List Records) → IsBankLoaded base config records → IsBankLoaded (with_certificate base bytes) config records
  loaded_still = loaded_too name base (with_certificate base bytes) kept

  read_before : (input : Input) (file : List ℕ) → IsBankRead name (with_certificate base bytes) input file → IsBankRead name base input file
  read_before = bank_read_back name base (with_certificate base bytes) kept

  -- so what is read of the bank agrees with what is told, or may be so, as before
  agrees_still : (old : Seen) → BankAgrees old name base → BankAgrees old name (with_certificate base bytes)
  agrees_still old agrees input file read =
      let before = read_before input file read in
      subst (λ (b : List ℕ). Finds (old.told file) (λ held. b ≡ held)) (kept input file before) (agrees input file before)

  may_still : (old : Seen) → BankMayBeRead old name base → BankMayBeRead old name (with_certificate base bytes)
  may_still old may input file read =
      let before = read_before input file read in
      subst (λ (b : List ℕ). MayHold (old.told file) b) (kept input file before) (may input file before)

module _ (words : List (List ℕ)) (o : CheckOrder) (asks : AsksCheck words o) where
  same_config : (p : CheckOrder) → AsksCheck words p → p.config ≡ o.config
  same_config p also = ap (λ (q : CheckOrder). q.config) (one_order words p o also asks)

  same_file : (p : CheckOrder) → AsksCheck words p → p.certificate ≡ o.certificate
  same_file p also = ap (λ (q : CheckOrder). q.certificate) (one_order words p o also asks)

  -- what holds of all that is read of the bank, and of the certificate, holds of all that is read
  all_read : (contents : Contents) (P : Input → List ℕ → Type 0) → ((input : Input) (file : List ℕ) → IsBankRead o.config contents input file → P input file)
      → P Certificate o.certificate → (input : Input) (file : List ℕ) → IsCheckRead words contents input file → P input file
  all_read contents P bank certificate input file (Reads_bank p also read) =
      bank input file (subst (λ (name : List ℕ). IsBankRead name contents input file) (same_config p also) read)
  all_read contents P bank certificate input file (Reads_certificate p also config records loaded is name) =
      subst (λ (i : Input). P i file) (sym is) (subst (λ (f : List ℕ). P Certificate f) (sym (name ∙ same_file p also)) certificate)

  -- what is told of the certificate that was read for the bank that was loaded
  pub judgement_found : (old : Seen) (config : PlainConfig) (records : List Records) (due : CheckDue) → IsLoaded old o.config config records
      → IsReadAs old o.certificate (λ bytes. IsBankChecked o (bank_of config records) bytes due) → IsFound (check_plan words) old (owes.Judged due)
  judgement_found old config records due (base, agrees, loaded) (bytes, found, told) =
      let contents = with_certificate base bytes in (
        contents,
        all_read contents (λ input file. Finds (old.told file) (λ held. contents input ≡ held)) (agrees_still o.config base bytes old agrees) found,
        Judged o asks config records (loaded_still o.config base bytes config records loaded) due told refl,
      )

  -- what is refused of what was loaded
  pub refusal_found : (old : Seen) (refusal : Refusal) → IsRefusedLoading old o.config refusal → IsFound (check_plan words) old (owes.Told (Refused refusal))
  refusal_found old refusal (contents, agrees, bad) = (contents, agrees_too, Bad_bank o asks refusal bad refl)
    where
      agrees_too : (input : Input) (file : List ℕ) → IsCheckRead words contents input file → Finds (old.told file) (λ held. contents input ≡ held)
      agrees_too input file (Reads_bank p also read) = agrees input file (subst (λ (name : List ℕ). IsBankRead name contents input file) (same_config p also) read)
      agrees_too input file (Reads_certificate p also config records loaded is name) = absurd (not_both contents config records refusal loaded bad)

  -- a file failed while a configuration and its logs were loaded
  pub failure_found : (old new : Seen) → FailsLoading old new o.config → SomeReadFails (check_plan words) old new
  failure_found old new (base, input, file, may, read, fails) =
      let bytes = told_bytes (old.told o.certificate) in
      let contents = with_certificate base bytes in (
        contents,
        input,
        file,
        all_read contents (λ n f. MayHold (old.told f) (contents n)) (may_still o.config base bytes old may) (told_may_hold (old.told o.certificate)),
        Reads_bank o asks (bank_read_too o.config base contents (kept o.config base bytes) input file read),
        fails,
      )

  -- the certificate's file failed, whatever it holds
  pub certificate_failed : (old new : Seen) (config : PlainConfig) (records : List Records) → IsLoaded old o.config config records → ReadFails o.certificate old new
      → SomeReadFails (check_plan words) old new
  certificate_failed old new config records (base, agrees, loaded) fails =
      let bytes = told_bytes (old.told o.certificate) in
      let contents = with_certificate base bytes in
      let may : BankMayBeRead old o.config base = (λ input file read. found_may_hold (old.told file) (base input) (agrees input file read)) in (
        contents,
        Certificate,
        o.certificate,
        all_read contents (λ n f. MayHold (old.told f) (contents n)) (may_still o.config base bytes old may) (told_may_hold (old.told o.certificate)),
        Reads_certificate o asks config records (loaded_still o.config base bytes config records loaded) refl refl,
        fails,
      )

-- what was read behind other reads, of which none failed, was read of the files as they were before
pub read_at_first : (old mid : Seen) (file : List ℕ) (P : List ℕ → Type 0) → mid.told ≡ old.told → IsReadAs mid file P → IsReadAs old file P
read_at_first old mid file P same (bytes, found, is) = (bytes, subst (λ (told : List ℕ → Told). Finds (told file) (λ held. bytes ≡ held)) same found, is)

pub failed_at_first : (old mid new : Seen) (file : List ℕ) → SameCounts old mid → ReadFails file mid new → ReadFails file old new
failed_at_first old mid new file same fails = subst (λ (counts : List ℕ → ℕ). HasFault (counts file) (new.read_faults file)) same.of_reads fails

-- an error is the same whatever might have come in its place
pub other_error : {A B E : Type 0} (x y : E) → ◌≡◌ {A = Result A E} (Err x) (Err y) → ◌≡◌ {A = Result B E} (Err x) (Err y)
other_error x y e = let same : x ≡ y = cc in ap Err same
