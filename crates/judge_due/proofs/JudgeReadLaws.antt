-- Contents that agree on what `judge` reads owe the same, and lead to the same files; and when a certificate is read.
use Rattle.std.proofs.Common.{◌≡◌, ◌≢◌, ◌↔◌, ℕ, inl, inr, List, [], ◌∷◌, refl, sym, ap, ◌∙◌, subst}
use Rattle.signal_base.specs.declared.window.Window.{Window}
use Rattle.definitions.specs.heard.Logs.{Records}
use Rattle.formats.specs.declared.refusal.Refusal.{Refusal}
use Rattle.bank_config.specs.Configuration.{PlainConfig}
use Rattle.due.specs.Banks.{Bank, bank_of, window_of}
use Rattle.due.specs.Configurations.{logs_of}
use Rattle.due.specs.Inputs.{CertificateAt, Configuration, Contents, Input, LogOf}
use Rattle.due.specs.LogFiles.{IsLogRead, LogFile}
use Rattle.due.specs.Loads.{IsBankLoaded, IsBankRead, IsBankRefused, Reads_configuration, Reads_log}
use Rattle.due.proofs.DueLaws.{not_both, one_bank}
use Rattle.due.proofs.ReadLaws.{bank_read_back, bank_read_too, loaded_too, refused_too}
use Rattle.sweep_due.specs.CertificateNames.{file_at}
use Rattle.sweep_due.specs.JudgeRules.{AsksJudge, JudgeOrder}
use Rattle.sweep_due.specs.Phases.{swept_offsets}
use Rattle.judge_due.specs.JudgeDues.{Bad_bank, Bad_words, Files_judged, IsJudgeDue, IsJudgeRead, IsOffsetRead, Reads_bank, Reads_certificate, files_in}
use Rattle.judge_due.specs.JudgeTexts.{JudgeOwed}
use Rattle.judge_due.proofs.FileLaws.{judged_too, read_back, read_too}
use Rattle.judge_due.proofs.JudgeOrderLaws.{one_order}

-- no certificate is among what is read of a bank
no_log : (contents : Contents) (logs : List LogFile) (offset : ℕ) (file : List ℕ) → IsLogRead contents logs (CertificateAt offset) file → ⊥
no_log contents [] offset file read = read
no_log contents (log ∷ logs) offset file (inl here) = absurd (let e : CertificateAt offset ≡ LogOf log.receiver = here.0 in cc)
no_log contents (log ∷ logs) offset file (inr later) = no_log contents logs offset file later.2

pub bank_reads_no_certificate : (name : List ℕ) (contents : Contents) (offset : ℕ) (file : List ℕ) → IsBankRead name contents (CertificateAt offset) file → ⊥
bank_reads_no_certificate name contents offset file (Reads_configuration e f) = absurd (let bad : CertificateAt offset ≡ Configuration = e in cc)
bank_reads_no_certificate name contents offset file (Reads_log config is read) = no_log contents (logs_of config) offset file read

-- the contents agree on all that is read for the one
abbrev pub Agree : List (List ℕ) → Contents → Contents → Type 0
Agree words some other = (input : Input) (file : List ℕ) → IsJudgeRead words some input file → some input ≡ other input

abbrev window_for : JudgeOrder → PlainConfig → List Records → Window
window_for o config records = window_of o.asked (bank_of config records).receivers

module _ (words : List (List ℕ)) (some other : Contents) (agree : Agree words some other) where
  on_bank : (o : JudgeOrder) → AsksJudge words o → (input : Input) (file : List ℕ) → IsBankRead o.config some input file → some input ≡ other input
  on_bank o asks input file read = agree input file (Reads_bank o asks read)

  on_files : (o : JudgeOrder) → AsksJudge words o → (config : PlainConfig) (records : List Records) → IsBankLoaded some config records
      → (i : ℕ) → IsOffsetRead o (bank_of config records) (files_in some) i → files_in some i ≡ files_in other i
  on_files o asks config records loaded i read = agree (CertificateAt i) (file_at o.name i) (Reads_certificate o asks config records loaded i read refl refl)

  due_too : (owed : JudgeOwed) → IsJudgeDue words some owed → IsJudgeDue words other owed
  due_too owed (Bad_words fault is e) = Bad_words fault is e
  due_too owed (Bad_bank o asks refusal bad e) = Bad_bank o asks refusal (refused_too o.config some other (on_bank o asks) refusal bad) e
  due_too owed (Files_judged o asks config records loaded due told e) =
      Files_judged o asks config records (loaded_too o.config some other (on_bank o asks) config records loaded) due
      (judged_too (window_for o config records) (bank_of config records) (files_in some) (files_in other) due (on_files o asks config records loaded) told) e

  reads_too : (input : Input) (file : List ℕ) → IsJudgeRead words some input file → IsJudgeRead words other input file
  reads_too input file (Reads_bank o asks read) = Reads_bank o asks (bank_read_too o.config some other (on_bank o asks) input file read)
  reads_too input file (Reads_certificate o asks config records loaded i read is name) =
      Reads_certificate o asks config records (loaded_too o.config some other (on_bank o asks) config records loaded) i
      (read_too (window_for o config records) (bank_of config records) (files_in some) (files_in other) (swept_offsets (window_for o config records).phase) i (on_files o asks config records loaded) read) is name

  -- what is read of the bank for the other is read for the one, so that they agree on it
  bank_back : (o : JudgeOrder) → AsksJudge words o → (input : Input) (file : List ℕ) → IsBankRead o.config other input file → other input ≡ some input
  bank_back o asks input file read = sym (on_bank o asks input file (bank_read_back o.config some other (on_bank o asks) input file read))

  reads_back : (input : Input) (file : List ℕ) → IsJudgeRead words other input file → IsJudgeRead words some input file
  reads_back input file (Reads_bank o asks read) = Reads_bank o asks (bank_read_back o.config some other (on_bank o asks) input file read)
  reads_back input file (Reads_certificate o asks config records loaded i read is name) =
      let here = loaded_too o.config other some (bank_back o asks) config records loaded in
      Reads_certificate o asks config records here i
      (read_back (window_for o config records) (bank_of config records) (files_in some) (files_in other) (swept_offsets (window_for o config records).phase) i (on_files o asks config records here) read) is name

-- it is the same the other way round
turned : (words : List (List ℕ)) (some other : Contents) → Agree words some other → Agree words other some
turned words some other agree input file is = sym (agree input file (reads_back words some other agree input file is))

pub same_judge_due : (words : List (List ℕ)) (some other : Contents) → Agree words some other → (owed : JudgeOwed) → IsJudgeDue words some owed ↔ IsJudgeDue words other owed
same_judge_due words some other agree owed = (due_too words some other agree owed, due_too words other some (turned words some other agree) owed)

pub same_judge_reads : (words : List (List ℕ)) (some other : Contents) → Agree words some other → (input : Input) (file : List ℕ)
    → IsJudgeRead words some input file ↔ IsJudgeRead words other input file
same_judge_reads words some other agree input file =
    (reads_too words some other agree input file, reads_back words some other agree input file)

module _ (words : List (List ℕ)) (contents : Contents) where
  -- where something of the bank is refused, no certificate is read
  pub refused_reads_none : (refusal : Refusal) (offset : ℕ) (file : List ℕ) → IsBankRefused contents refusal → IsJudgeRead words contents (CertificateAt offset) file → ⊥
  refused_reads_none refusal offset file bad (Reads_bank o asks read) = bank_reads_no_certificate o.config contents offset file read
  refused_reads_none refusal offset file bad (Reads_certificate o asks config records loaded i read is name) = not_both contents config records refusal loaded bad

  module _ (o : JudgeOrder) (asks : AsksJudge words o) where
    same_offset : (i j : ℕ) → CertificateAt i ≡ CertificateAt j → i ≡ j
    same_offset i j e = cc

    -- at each offset the file of its name, where the bank is good and all certificates before it are
    pub certificate_file : (config : PlainConfig) (records : List Records) → IsBankLoaded contents config records → (offset : ℕ) (file : List ℕ)
        → IsJudgeRead words contents (CertificateAt offset) file → (file ≡ file_at o.name offset) × IsOffsetRead o (bank_of config records) (files_in contents) offset
    certificate_file config records loaded offset file (Reads_bank p also read) = absurd (bank_reads_no_certificate p.config contents offset file read)
    certificate_file config records loaded offset file (Reads_certificate p also other others too i read is name) =
        let at = same_offset offset i is in (
          name ∙ ap (λ (q : JudgeOrder). file_at q.name i) (one_order words p o also asks) ∙ ap (file_at o.name) (sym at),
          subst (λ (j : ℕ). IsOffsetRead o (bank_of config records) (files_in contents) j) (sym at)
              (subst (λ (q : JudgeOrder). IsOffsetRead q (bank_of config records) (files_in contents) i) (one_order words p o also asks)
              (subst (λ (b : Bank). IsOffsetRead p b (files_in contents) i) (one_bank contents other config others records too loaded) read)),
        )

    pub read_of_bank : (input : Input) (file : List ℕ) → ((offset : ℕ) → input ≢ CertificateAt offset) → IsJudgeRead words contents input file → IsBankRead o.config contents input file
    read_of_bank input file none (Reads_bank p also read) =
        subst (λ (name : List ℕ). IsBankRead name contents input file) (ap (λ (q : JudgeOrder). q.config) (one_order words p o also asks)) read
    read_of_bank input file none (Reads_certificate p also config records loaded i read is name) = absurd (none i is)
