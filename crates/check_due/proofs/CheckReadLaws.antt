-- Contents that agree on what `check` reads owe the same, and lead to the same files; and when a certificate is read.
use Rattle.std.proofs.Common.{◌≡◌, ◌≢◌, ◌↔◌, ℕ, inl, inr, List, [], ◌∷◌, refl, sym, ap, ◌∙◌, subst}
use Rattle.formats.specs.declared.refusal.Refusal.{Refusal}
use Rattle.due.specs.Banks.{bank_of}
use Rattle.due.specs.CertificateRules.{AsksCheck, CheckOrder}
use Rattle.due.specs.Configurations.{logs_of}
use Rattle.due.specs.Inputs.{Certificate, Configuration, Contents, Input, LogOf}
use Rattle.due.specs.LogFiles.{IsLogRead, LogFile}
use Rattle.due.specs.Loads.{IsBankRead, IsBankRefused, Reads_configuration, Reads_log}
use Rattle.due.proofs.DueLaws.{not_both}
use Rattle.due.proofs.ReadLaws.{bank_read_back, bank_read_too, loaded_too, refused_too}
use Rattle.check_due.specs.declared.check_owed.CheckOwed.{CheckOwed}
use Rattle.check_due.specs.CheckRules.{Bad_bank, Bad_words, IsBankChecked, IsCheckDue, IsCheckRead, Judged, Reads_bank, Reads_certificate}
use Rattle.check_due.proofs.CheckOrderLaws.{one_order}

-- no certificate is among what is read of a bank
no_log : (contents : Contents) (logs : List LogFile) (file : List ℕ) → IsLogRead contents logs Certificate file → ⊥
no_log contents [] file read = read
no_log contents (log ∷ logs) file (inl here) = absurd (let e : Certificate ≡ LogOf log.receiver = here.0 in cc)
no_log contents (log ∷ logs) file (inr later) = no_log contents logs file later.2

pub bank_reads_no_certificate : (name : List ℕ) (contents : Contents) (file : List ℕ) → IsBankRead name contents Certificate file → ⊥
bank_reads_no_certificate name contents file (Reads_configuration e f) = absurd (let bad : Certificate ≡ Configuration = e in cc)
bank_reads_no_certificate name contents file (Reads_log config is read) = no_log contents (logs_of config) file read

-- the contents agree on all that is read for the one
abbrev pub Agree : List (List ℕ) → Contents → Contents → Type 0
Agree words some other = (input : Input) (file : List ℕ) → IsCheckRead words some input file → some input ≡ other input

module _ (words : List (List ℕ)) (some other : Contents) (agree : Agree words some other) where
  on_bank : (o : CheckOrder) → AsksCheck words o → (input : Input) (file : List ℕ) → IsBankRead o.config some input file → some input ≡ other input
  on_bank o asks input file read = agree input file (Reads_bank o asks read)

  due_too : (owed : CheckOwed) → IsCheckDue words some owed → IsCheckDue words other owed
  due_too owed (Bad_words fault is e) = Bad_words fault is e
  due_too owed (Bad_bank o asks refusal bad e) = Bad_bank o asks refusal (refused_too o.config some other (on_bank o asks) refusal bad) e
  due_too owed (Judged o asks config records loaded due told e) =
      Judged o asks config records (loaded_too o.config some other (on_bank o asks) config records loaded) due
      (subst (λ (bytes : List ℕ). IsBankChecked o (bank_of config records) bytes due)
      (agree Certificate o.certificate (Reads_certificate o asks config records loaded refl refl)) told) e

  reads_too : (input : Input) (file : List ℕ) → IsCheckRead words some input file → IsCheckRead words other input file
  reads_too input file (Reads_bank o asks read) = Reads_bank o asks (bank_read_too o.config some other (on_bank o asks) input file read)
  reads_too input file (Reads_certificate o asks config records loaded is name) =
      Reads_certificate o asks config records (loaded_too o.config some other (on_bank o asks) config records loaded) is name

  -- what is read of the bank for the other is read for the one, so that they agree on it
  bank_back : (o : CheckOrder) → AsksCheck words o → (input : Input) (file : List ℕ) → IsBankRead o.config other input file → other input ≡ some input
  bank_back o asks input file read = sym (on_bank o asks input file (bank_read_back o.config some other (on_bank o asks) input file read))

  reads_back : (input : Input) (file : List ℕ) → IsCheckRead words other input file → IsCheckRead words some input file
  reads_back input file (Reads_bank o asks read) = Reads_bank o asks (bank_read_back o.config some other (on_bank o asks) input file read)
  reads_back input file (Reads_certificate o asks config records loaded is name) =
      Reads_certificate o asks config records (loaded_too o.config other some (bank_back o asks) config records loaded) is name

-- it is the same the other way round
turned : (words : List (List ℕ)) (some other : Contents) → Agree words some other → Agree words other some
turned words some other agree input file is = sym (agree input file (reads_back words some other agree input file is))

pub same_check_due : (words : List (List ℕ)) (some other : Contents) → Agree words some other → (owed : CheckOwed) → IsCheckDue words some owed ↔ IsCheckDue words other owed
same_check_due words some other agree owed = (due_too words some other agree owed, due_too words other some (turned words some other agree) owed)

pub same_check_reads : (words : List (List ℕ)) (some other : Contents) → Agree words some other → (input : Input) (file : List ℕ)
    → IsCheckRead words some input file ↔ IsCheckRead words other input file
same_check_reads words some other agree input file =
    (reads_too words some other agree input file, reads_back words some other agree input file)

module _ (words : List (List ℕ)) (contents : Contents) where
  -- where something of the bank is refused, no certificate is read
  pub refused_reads_none : (refusal : Refusal) (file : List ℕ) → IsBankRefused contents refusal → IsCheckRead words contents Certificate file → ⊥
  refused_reads_none refusal file bad (Reads_bank o asks read) = bank_reads_no_certificate o.config contents file read
  refused_reads_none refusal file bad (Reads_certificate o asks config records loaded is name) = not_both contents config records refusal loaded bad

  module _ (o : CheckOrder) (asks : AsksCheck words o) where
    pub certificate_file : (file : List ℕ) → IsCheckRead words contents Certificate file → file ≡ o.certificate
    certificate_file file (Reads_bank p also read) = absurd (bank_reads_no_certificate p.config contents file read)
    certificate_file file (Reads_certificate p also config records loaded is name) = name ∙ ap (λ (q : CheckOrder). q.certificate) (one_order words p o also asks)

    pub read_of_bank : (input : Input) (file : List ℕ) → input ≢ Certificate → IsCheckRead words contents input file → IsBankRead o.config contents input file
    read_of_bank input file other (Reads_bank p also read) =
        subst (λ (name : List ℕ). IsBankRead name contents input file) (ap (λ (q : CheckOrder). q.config) (one_order words p o also asks)) read
    read_of_bank input file other (Reads_certificate p also config records loaded is name) = absurd (other is)
