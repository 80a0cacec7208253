-- Contents that agree on what is read owe the same, and lead to the same files.
use Rattle.std.proofs.Common.{◌≡◌, ◌↔◌, ℕ, inl, inr, List, [], ◌∷◌, Option, Some, refl, sym, subst}
use Rattle.definitions.specs.heard.Logs.{Records}
use Rattle.formats.specs.declared.refusal.Refusal.{Refusal}
use Rattle.formats.specs.Orders.Order.{Decode}
use Rattle.bank_config.specs.Configuration.{PlainConfig}
use Rattle.certificates.specs.Certificates.{Certificate}
use Rattle.due.specs.declared.due.Due.{Due}
use Rattle.due.specs.CertificateRules.{AsksCertificate, CertificateOrder, IsCertificateDue, Not_asked, Not_loaded, Written}
use Rattle.due.specs.Configurations.{IsBadConfiguration, IsConfiguration, logs_of}
use Rattle.due.specs.Inputs.{Configuration, Contents, Input, LogOf}
use Rattle.due.specs.LogFiles.{AreGood, IsBad, IsFirstBad, IsGood, IsLogRead, LogFile}
use Rattle.due.specs.Loads.{IsBankLoaded, IsBankRead, IsBankRefused, Bad_configuration, Bad_log, Reads_configuration, Reads_log}
use Rattle.due.specs.Orders.{BankOrder, Report}
use Rattle.due.specs.Owed.{IsOwed, Owed}
use Rattle.due.specs.Rules.{AsksBank, IsDue, Bad_words, Listed, Tried, Bad_bank, Answered, IsRead}

module _ (some other : Contents) where
  -- they agree on the logs that are read
  abbrev AgreeOnLogs : List LogFile → Type 0
  AgreeOnLogs logs = (input : Input) (file : List ℕ) → IsLogRead some logs input file → some input ≡ other input

  first_agrees : (log : LogFile) (logs : List LogFile) → AgreeOnLogs (log ∷ logs) → some (LogOf log.receiver) ≡ other (LogOf log.receiver)
  first_agrees log logs agree = agree (LogOf log.receiver) log.file (inl (refl, refl))

  rest_agrees : (log : LogFile) (logs : List LogFile) (records : Records) → IsGood (some (LogOf log.receiver)) records → AgreeOnLogs (log ∷ logs) → AgreeOnLogs logs
  rest_agrees log logs records good agree input file is = agree input file (inr (records, good, is))

  good_too : (logs : List LogFile) (all : List Records) → AgreeOnLogs logs → AreGood some logs all → AreGood other logs all
  good_too [] all agree h = h
  good_too (log ∷ logs) [] agree h = h
  good_too (log ∷ logs) (first ∷ rest) agree h =
      (subst (λ bytes. IsGood bytes first) (first_agrees log logs agree) h.0, good_too logs rest (rest_agrees log logs first h.0 agree) h.1)

  bad_too : (logs : List LogFile) (refusal : Refusal) → AgreeOnLogs logs → IsFirstBad some logs refusal → IsFirstBad other logs refusal
  bad_too [] refusal agree h = h
  bad_too (log ∷ logs) refusal agree (inl h) = inl (subst (λ bytes. IsBad log bytes refusal) (first_agrees log logs agree) h)
  bad_too (log ∷ logs) refusal agree (inr h) =
      inr (h.0, subst (λ bytes. IsGood bytes h.0) (first_agrees log logs agree) h.1, bad_too logs refusal (rest_agrees log logs h.0 h.1 agree) h.2)

  -- and so the logs are the same that are read
  read_too : (logs : List LogFile) (input : Input) (file : List ℕ) → AgreeOnLogs logs → IsLogRead some logs input file → IsLogRead other logs input file
  read_too [] input file agree h = h
  read_too (log ∷ logs) input file agree (inl h) = inl h
  read_too (log ∷ logs) input file agree (inr h) =
      inr (h.0, subst (λ bytes. IsGood bytes h.0) (first_agrees log logs agree) h.1, read_too logs input file (rest_agrees log logs h.0 h.1 agree) h.2)

  read_back : (logs : List LogFile) (input : Input) (file : List ℕ) → AgreeOnLogs logs → IsLogRead other logs input file → IsLogRead some logs input file
  read_back [] input file agree h = h
  read_back (log ∷ logs) input file agree (inl h) = inl h
  read_back (log ∷ logs) input file agree (inr h) =
      let good = subst (λ bytes. IsGood bytes h.0) (sym (first_agrees log logs agree)) h.1 in
      inr (h.0, good, read_back logs input file (rest_agrees log logs h.0 good agree) h.2)

-- they agree on all that is read of a bank
module _ (name : List ℕ) (some other : Contents) (agree : (input : Input) (file : List ℕ) → IsBankRead name some input file → some input ≡ other input) where
  same_configuration : some Configuration ≡ other Configuration
  same_configuration = agree Configuration name (Reads_configuration refl refl)

  is_too : (config : PlainConfig) → IsConfiguration (some Configuration) config → IsConfiguration (other Configuration) config
  is_too config is = subst (λ bytes. IsConfiguration bytes config) same_configuration is

  is_back : (config : PlainConfig) → IsConfiguration (other Configuration) config → IsConfiguration (some Configuration) config
  is_back config is = subst (λ bytes. IsConfiguration bytes config) (sym same_configuration) is

  on_logs : (config : PlainConfig) → IsConfiguration (some Configuration) config → AgreeOnLogs some other (logs_of config)
  on_logs config is input file read = agree input file (Reads_log config is read)

  pub loaded_too : (config : PlainConfig) (records : List Records) → IsBankLoaded some config records → IsBankLoaded other config records
  loaded_too config records is = record { says = is_too config is.says; good = good_too some other (logs_of config) records (on_logs config is.says) is.good }

  pub refused_too : (refusal : Refusal) → IsBankRefused some refusal → IsBankRefused other refusal
  refused_too refusal (Bad_configuration bad) = Bad_configuration (subst (λ bytes. IsBadConfiguration bytes refusal) same_configuration bad)
  refused_too refusal (Bad_log config is bad) = Bad_log config (is_too config is) (bad_too some other (logs_of config) refusal (on_logs config is) bad)

  pub bank_read_too : (input : Input) (file : List ℕ) → IsBankRead name some input file → IsBankRead name other input file
  bank_read_too input file (Reads_configuration e f) = Reads_configuration e f
  bank_read_too input file (Reads_log config is read) = Reads_log config (is_too config is) (read_too some other (logs_of config) input file (on_logs config is) read)

  pub bank_read_back : (input : Input) (file : List ℕ) → IsBankRead name other input file → IsBankRead name some input file
  bank_read_back input file (Reads_configuration e f) = Reads_configuration e f
  bank_read_back input file (Reads_log config is read) =
      let here = is_back config is in
      Reads_log config here (read_back some other (logs_of config) input file (on_logs config here) read)

-- the contents agree on all that is read for the one
abbrev pub Agree : List (List ℕ) → Contents → Contents → Type 0
Agree words some other = (input : Input) (file : List ℕ) → IsRead words some input file → some input ≡ other input

-- who asks for a certificate asks something of a bank
abbrev pub bank_of_order : CertificateOrder → BankOrder
bank_of_order o = record { config = o.config; asked = o.asked; wanted = Report (Some o.name) }

pub asks_of_bank : (words : List (List ℕ)) (o : CertificateOrder) → AsksCertificate words o → AsksBank words (bank_of_order o)
asks_of_bank words o asks = (Decode o.config o.asked o.workers (Some o.name), asks, refl)

module _ (words : List (List ℕ)) (some other : Contents) (agree : Agree words some other) where
  due_too : (due : Due) → IsDue words some due → IsDue words other due
  due_too due (Bad_words fault is e) = Bad_words fault is e
  due_too due (Listed station minute announced is e) = Listed station minute announced is e
  due_too due (Tried number workers is answer of e) = Tried number workers is answer of e
  due_too due (Bad_bank o asks refusal bad e) = Bad_bank o asks refusal (refused_too o.config some other (λ input file read. agree input file (o, asks, read)) refusal bad) e
  due_too due (Answered o asks config records loaded reported) =
      Answered o asks config records (loaded_too o.config some other (λ input file read. agree input file (o, asks, read)) config records loaded) reported

  certificate_too : (owed : Option Certificate) → IsCertificateDue words some owed → IsCertificateDue words other owed
  certificate_too owed (Not_asked none e) = Not_asked none e
  certificate_too owed (Not_loaded o asks refusal bad e) =
      Not_loaded o asks refusal (refused_too o.config some other (λ input file read. agree input file (bank_of_order o, asks_of_bank words o asks, read)) refusal bad) e
  certificate_too owed (Written o asks config records loaded c is e) =
      Written o asks config records (loaded_too o.config some other (λ input file read. agree input file (bank_of_order o, asks_of_bank words o asks, read)) config records loaded) c is e

  owed_too : (owed : Owed) → IsOwed words some owed → IsOwed words other owed
  owed_too owed is = record { due_is = due_too owed.due is.due_is; certificate_is = certificate_too owed.certificate is.certificate_is }

  reads_too : (input : Input) (file : List ℕ) → IsRead words some input file → IsRead words other input file
  reads_too input file (o, asks, read) = (o, asks, bank_read_too o.config some other (λ n f r. agree n f (o, asks, r)) input file read)

  reads_back : (input : Input) (file : List ℕ) → IsRead words other input file → IsRead words some input file
  reads_back input file (o, asks, read) = (o, asks, bank_read_back o.config some other (λ n f r. agree n f (o, asks, r)) input file read)

-- it is the same the other way round
turned : (words : List (List ℕ)) (some other : Contents) → Agree words some other → Agree words other some
turned words some other agree input file is = sym (agree input file (reads_back words some other agree input file is))

pub same_due : (words : List (List ℕ)) (some other : Contents) → Agree words some other → (due : Due) → IsDue words some due ↔ IsDue words other due
same_due words some other agree due = (due_too words some other agree due, due_too words other some (turned words some other agree) due)

pub same_owed : (words : List (List ℕ)) (some other : Contents) → Agree words some other → (owed : Owed) → IsOwed words some owed ↔ IsOwed words other owed
same_owed words some other agree owed = (owed_too words some other agree owed, owed_too words other some (turned words some other agree) owed)

pub same_reads : (words : List (List ℕ)) (some other : Contents) → Agree words some other → (input : Input) (file : List ℕ)
    → IsRead words some input file ↔ IsRead words other input file
same_reads words some other agree input file =
    (reads_too words some other agree input file, reads_back words some other agree input file)
