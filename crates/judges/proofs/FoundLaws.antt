-- What is found due of `judge`, and what a file that fails is of.
use Rattle.std.proofs.Common.{◌≡◌, ℕ, List, refl, sym, ap, ◌∙◌, subst}
use Rattle.definitions.specs.heard.Logs.{Records}
use Rattle.formats.specs.declared.refusal.Refusal.{Refusal}
use Rattle.bank_files.specs.Told.{Finds}
use Rattle.bank_files.specs.Seen.{Seen}
use Rattle.bank_config.specs.Configuration.{PlainConfig}
use Rattle.due.specs.declared.due.Due.TheVariants.{Refused}
use Rattle.due.specs.Banks.{bank_of, window_of}
use Rattle.due.specs.CheckDues.{fault_of}
use Rattle.due.specs.Inputs.{Certificate, CertificateAt, Configuration, Contents, FramesText, Input, LogOf, QueriesText}
use Rattle.due.specs.Loads.{IsBankLoaded, IsBankRead}
use Rattle.due.proofs.DueLaws.{not_both}
use Rattle.due.proofs.ReadLaws.{bank_read_back, bank_read_too, loaded_too}
use Rattle.sweep_due.specs.CertificateNames.{file_at}
use Rattle.sweep_due.specs.JudgeRules.{AsksJudge, Bad, Files, Good, JudgeOrder}
use Rattle.sweep_due.specs.JudgeRules.JudgeDue.{Certified, NotCertified}
use Rattle.judge_due.specs.JudgeDues.{Bad_bank, Files_judged, IsJudgeRead, IsOffsetRead, Reads_bank, Reads_certificate, files_in}
use Rattle.judge_due.proofs.JudgeOrderLaws.{one_order}
use Rattle.judge_due.proofs.JudgeReadLaws.{bank_reads_no_certificate, certificate_file}
use Rattle.bank.specs.Ending.{IsFound, MayHold, SomeReadFails}
use Rattle.bank.specs.Loading.{BankAgrees, BankMayBeRead, FailsLoading, IsLoaded, IsRefusedLoading}
use Rattle.bank.proofs.ContentLaws.{found_may_hold}
use Rattle.judges.specs.declared.owed.JudgeOwed.{JudgeOwed}
use Rattle.judges.specs.declared.owed.JudgeOwed.TheVariants as kept_so
use Rattle.judges.specs.Judging.{FailsBank, IsBankFound}
use Rattle.judges.specs.Seen.{kept_plan}
use Rattle.judges.proofs.ChosenLaws.{as_told, choose_all, choose_bad, choose_read}

-- the contents with these certificates
abbrev pub with_files : Contents → Files → Contents
with_files base files Configuration = base Configuration
with_files base files (LogOf k) = base (LogOf k)
with_files base files Certificate = base Certificate
with_files base files (CertificateAt i) = files i
with_files base files FramesText = base FramesText
with_files base files QueriesText = base QueriesText

module _ (name : List ℕ) (base : Contents) (files : Files) where
  -- nothing that is read of a bank is changed by them
  kept : (input : Input) (file : List ℕ) → IsBankRead name base input file → base input ≡ with_files base files input
  kept Configuration file read = refl
  kept (LogOf k) file read = refl
  kept Certificate file read = refl
  kept (CertificateAt i) file read = absurd (bank_reads_no_certificate name base i file read)
  kept FramesText file read = refl
  kept QueriesText file read = refl

  loaded_still : (config : PlainConfig) (records : List Records) → IsBankLoaded base config records → IsBankLoaded (with_files base files) config records
  loaded_still = loaded_too name base (with_files base files) kept

  read_before : (input : Input) (file : List ℕ) → IsBankRead name (with_files base files) input file → IsBankRead name base input file
  read_before = bank_read_back name base (with_files base files) kept

  -- so what is read of the bank agrees with what is told, or may be so, as before
  agrees_still : (old : Seen) → BankAgrees old name base → BankAgrees old name (with_files base files)
  agrees_still old agrees input file read =
      let before = read_before input file read in
      subst (λ (b : List ℕ). Finds (old.told file) (λ held. b ≡ held)) (kept input file before) (agrees input file before)

  may_still : (old : Seen) → BankMayBeRead old name base → BankMayBeRead old name (with_files base files)
  may_still old may input file read =
      let before = read_before input file read in
      subst (λ (b : List ℕ). MayHold (old.told file) b) (kept input file before) (may input file before)

module _ (words : List (List ℕ)) (o : JudgeOrder) (asks : AsksJudge words o) where
  same_order : (p : JudgeOrder) → AsksJudge words p → p ≡ o
  same_order p also = one_order words p o also asks

  of_bank : (contents : Contents) (p : JudgeOrder) → AsksJudge words p → (input : Input) (file : List ℕ) → IsBankRead p.config contents input file → IsBankRead o.config contents input file
  of_bank contents p also input file read =
      subst (λ (name : List ℕ). IsBankRead name contents input file) (ap (λ (q : JudgeOrder). q.config) (same_order p also)) read

  module _ (contents : Contents) (P : Input → List ℕ → Type 0) (bank : (input : Input) (file : List ℕ) → IsBankRead o.config contents input file → P input file) where
    -- what holds of all that is read of the bank, and of all certificates, holds of all that is read
    all_of : ((i : ℕ) → P (CertificateAt i) (file_at o.name i)) → (input : Input) (file : List ℕ) → IsJudgeRead words contents input file → P input file
    all_of certificates input file (Reads_bank p also read) = bank input file (of_bank contents p also input file read)
    all_of certificates input file (Reads_certificate p also config records loaded i read is name) =
        subst (λ (n : Input). P n file) (sym is)
        (subst (λ (f : List ℕ). P (CertificateAt i) f) (sym (name ∙ ap (λ (q : JudgeOrder). file_at q.name i) (same_order p also))) (certificates i))

    -- and so it is with those certificates alone that are read
    all_read : (config : PlainConfig) (records : List Records) → IsBankLoaded contents config records
        → ((i : ℕ) → IsOffsetRead o (bank_of config records) (files_in contents) i → P (CertificateAt i) (file_at o.name i))
        → (input : Input) (file : List ℕ) → IsJudgeRead words contents input file → P input file
    all_read config records loaded certificates input file (Reads_bank p also read) = bank input file (of_bank contents p also input file read)
    all_read config records loaded certificates input file (Reads_certificate p also other others too i read is name) =
        let (named, at) = certificate_file words contents o asks config records loaded i file (Reads_certificate p also other others too i read refl name) in
        subst (λ (n : Input). P n file) (sym is) (subst (λ (f : List ℕ). P (CertificateAt i) f) (sym named) (certificates i at))

  -- what is found of the certificates of the bank that was loaded
  pub judgement_found : (old : Seen) (config : PlainConfig) (records : List Records) (owed : JudgeOwed) → IsLoaded old o.config config records
      → IsBankFound old o (bank_of config records) owed → IsFound (kept_plan words) old owed
  judgement_found old config records (kept_so.Told due) loaded found = absurd found
  judgement_found old config records (kept_so.Certified told answer duts) (base, agrees, loaded) ((s, named), report) =
      let bank = bank_of config records in
      let window = window_of o.asked bank.receivers in
      let (files, all_valid) = choose_all old o.name window bank s named in
      let (may, found, good, all_named) = all_valid in
      let contents = with_files base files in
      let too = loaded_still o.config base files config records loaded in (
        contents,
        all_read contents (λ input file. Finds (old.told file) (λ held. contents input ≡ held)) (agrees_still o.config base files old agrees) config records too found,
        Files_judged o asks config records too (Certified told answer duts) (Good good told answer duts report refl) refl,
      )
  judgement_found old config records (kept_so.NotCertified i fault) (base, agrees, loaded) (swept, (s, named), bad) =
      let bank = bank_of config records in
      let window = window_of o.asked bank.receivers in
      let (files, one_bad) = choose_bad old o.name window bank i (fault_of fault) s swept named bad in
      let (found, first) = one_bad in
      let contents = with_files base files in
      let too = loaded_still o.config base files config records loaded in (
        contents,
        all_read contents (λ input file. Finds (old.told file) (λ held. contents input ≡ held)) (agrees_still o.config base files old agrees) config records too found,
        Files_judged o asks config records too (NotCertified i (fault_of fault)) (Bad i (fault_of fault) first refl) refl,
      )

  -- what is refused of what was loaded
  pub refusal_found : (old : Seen) (refusal : Refusal) → IsRefusedLoading old o.config refusal → IsFound (kept_plan words) old (kept_so.Told (Refused refusal))
  refusal_found old refusal (contents, agrees, bad) = (contents, agrees_too, Bad_bank o asks refusal bad refl)
    where
      agrees_too : (input : Input) (file : List ℕ) → IsJudgeRead words contents input file → Finds (old.told file) (λ held. contents input ≡ held)
      agrees_too input file (Reads_bank p also read) = agrees input file (of_bank contents p also input file read)
      agrees_too input file (Reads_certificate p also config records loaded i read is name) = absurd (not_both contents config records refusal loaded bad)

  -- a file failed while a configuration and its logs were loaded
  pub failure_found : (old new : Seen) → FailsLoading old new o.config → SomeReadFails (kept_plan words) old new
  failure_found old new (base, input, file, may, read, fails) =
      let (files, may_be) = as_told old o.name in
      let contents = with_files base files in (
        contents,
        input,
        file,
        all_of contents (λ n f. MayHold (old.told f) (contents n)) (may_still o.config base files old may) may_be,
        Reads_bank o asks (bank_read_too o.config base contents (kept o.config base files) input file read),
        fails,
      )

  -- a certificate's file failed, whatever it holds
  pub certificate_failed : (old new : Seen) (config : PlainConfig) (records : List Records) → IsLoaded old o.config config records → FailsBank old new o (bank_of config records)
      → SomeReadFails (kept_plan words) old new
  certificate_failed old new config records (base, agrees, loaded) (i, (swept, fails), s, named) =
      let bank = bank_of config records in
      let window = window_of o.asked bank.receivers in
      let (files, may_be, read) = choose_read old o.name window bank i s swept named in
      let contents = with_files base files in
      let may : BankMayBeRead old o.config base = (λ input file r. found_may_hold (old.told file) (base input) (agrees input file r)) in (
        contents,
        CertificateAt i,
        file_at o.name i,
        all_of contents (λ n f. MayHold (old.told f) (contents n)) (may_still o.config base files old may) may_be,
        Reads_certificate o asks config records (loaded_still o.config base files config records loaded) i read refl refl,
        fails,
      )
