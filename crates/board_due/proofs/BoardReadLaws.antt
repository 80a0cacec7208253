-- Contents that agree on what `board` reads owe the same, and lead to the same files; and when the queries are read.
use Rattle.std.proofs.Common.{◌≡◌, ◌≢◌, ◌↔◌, ℕ, inl, inr, List, [], ◌∷◌, refl, sym, ap, ◌∙◌, subst, arith}
use Rattle.definitions.specs.heard.Logs.{Records}
use Rattle.formats.specs.declared.refusal.Refusal.{Refusal}
use Rattle.bank_config.specs.Configuration.{PlainConfig}
use Rattle.due.specs.Banks.{Bank, bank_of}
use Rattle.due.specs.Configurations.{logs_of}
use Rattle.due.specs.Inputs.{Configuration, Contents, Input, LogOf, QueriesText}
use Rattle.due.specs.LogFiles.{IsLogRead, LogFile}
use Rattle.due.specs.Loads.{IsBankLoaded, IsBankRead, IsBankRefused, Reads_configuration, Reads_log}
use Rattle.due.proofs.DueLaws.{not_both, one_bank}
use Rattle.due.proofs.ReadLaws.{bank_read_back, bank_read_too, loaded_too, refused_too}
use Rattle.board_due.specs.declared.board_due.BoardDue.{BoardDue}
use Rattle.board_due.specs.BoardOrders.{AsksBoard, BoardOrder}
use Rattle.board_due.specs.BoardRules.{Answered, Asked, Bad_bank, Bad_count, Bad_words, IsBoardDue, IsBoardRead, IsBoarded, IsInTime, IsLate, Reads_bank, Reads_queries}
use Rattle.board_due.specs.Queries.{IsToldOf}
use Rattle.board_due.proofs.BoardOrderLaws.{one_order}

-- the contents agree on all that is read for the one
abbrev pub Agree : List (List ℕ) → Contents → Contents → Type 0
Agree words some other = (input : Input) (file : List ℕ) → IsBoardRead words some input file → some input ≡ other input

module _ (words : List (List ℕ)) (some other : Contents) (agree : Agree words some other) where
  on_bank : (o : BoardOrder) → AsksBoard words o → (input : Input) (file : List ℕ) → IsBankRead o.follow.config some input file → some input ≡ other input
  on_bank o asks input file read = agree input file (Reads_bank o asks read)

  pub loaded_here : (o : BoardOrder) → AsksBoard words o → (config : PlainConfig) (records : List Records) → IsBankLoaded some config records → IsBankLoaded other config records
  loaded_here o asks config records loaded = loaded_too o.follow.config some other (on_bank o asks) config records loaded

  -- the queries are read only where the windows start early enough
  boarded_too : (o : BoardOrder) → AsksBoard words o → (config : PlainConfig) (records : List Records) → IsBankLoaded some config records → (due : BoardDue)
      → IsBoarded o (bank_of config records) (some QueriesText) due → IsBoarded o (bank_of config records) (other QueriesText) due
  boarded_too o asks config records loaded due (Bad_count late e) = Bad_count late e
  boarded_too o asks config records loaded due (Asked early told is h) =
      let same = agree QueriesText o.queries (Reads_queries o asks config records loaded early refl refl) in
      Asked early told (subst (λ (text : List ℕ). IsToldOf text told) same is) h

  due_too : (due : BoardDue) → IsBoardDue words some due → IsBoardDue words other due
  due_too due (Bad_words fault is e) = Bad_words fault is e
  due_too due (Bad_bank o asks refusal bad e) = Bad_bank o asks refusal (refused_too o.follow.config some other (on_bank o asks) refusal bad) e
  due_too due (Answered o asks config records loaded told) =
      Answered o asks config records (loaded_here o asks config records loaded) (boarded_too o asks config records loaded due told)

  reads_too : (input : Input) (file : List ℕ) → IsBoardRead words some input file → IsBoardRead words other input file
  reads_too input file (Reads_bank o asks read) = Reads_bank o asks (bank_read_too o.follow.config some other (on_bank o asks) input file read)
  reads_too input file (Reads_queries o asks config records loaded early e f) = Reads_queries o asks config records (loaded_here o asks config records loaded) early e f

  bank_back : (o : BoardOrder) → AsksBoard words o → (input : Input) (file : List ℕ) → IsBankRead o.follow.config other input file → other input ≡ some input
  bank_back o asks input file read =
      sym (on_bank o asks input file (bank_read_back o.follow.config some other (on_bank o asks) input file read))

  reads_back : (input : Input) (file : List ℕ) → IsBoardRead words other input file → IsBoardRead words some input file
  reads_back input file (Reads_bank o asks read) = Reads_bank o asks (bank_read_back o.follow.config some other (on_bank o asks) input file read)
  reads_back input file (Reads_queries o asks config records loaded early e f) =
      Reads_queries o asks config records (loaded_too o.follow.config other some (bank_back o asks) config records loaded) early e f

-- it is the same the other way round
turned : (words : List (List ℕ)) (some other : Contents) → Agree words some other → Agree words other some
turned words some other agree input file is = sym (agree input file (reads_back words some other agree input file is))

pub same_board_due : (words : List (List ℕ)) (some other : Contents) → Agree words some other → (due : BoardDue) → IsBoardDue words some due ↔ IsBoardDue words other due
same_board_due words some other agree due = (due_too words some other agree due, due_too words other some (turned words some other agree) due)

pub same_board_reads : (words : List (List ℕ)) (some other : Contents) → Agree words some other → (input : Input) (file : List ℕ)
    → IsBoardRead words some input file ↔ IsBoardRead words other input file
same_board_reads words some other agree input file =
    (reads_too words some other agree input file, reads_back words some other agree input file)

-- no queries are among what is read of a bank
no_log : (contents : Contents) (logs : List LogFile) (file : List ℕ) → IsLogRead contents logs QueriesText file → ⊥
no_log contents [] file read = read
no_log contents (log ∷ logs) file (inl here) = absurd (let e : QueriesText ≡ LogOf log.receiver = here.0 in cc)
no_log contents (log ∷ logs) file (inr later) = no_log contents logs file later.2

bank_reads_no_queries : (name : List ℕ) (contents : Contents) (file : List ℕ) → IsBankRead name contents QueriesText file → ⊥
bank_reads_no_queries name contents file (Reads_configuration e f) = absurd (let bad : QueriesText ≡ Configuration = e in cc)
bank_reads_no_queries name contents file (Reads_log config is read) = no_log contents (logs_of config) file read

module _ (words : List (List ℕ)) (contents : Contents) where
  -- where something of the bank is refused, no queries are read
  pub refused_reads_none : (refusal : Refusal) (file : List ℕ) → IsBankRefused contents refusal → IsBoardRead words contents QueriesText file → ⊥
  refused_reads_none refusal file bad (Reads_bank o asks read) = bank_reads_no_queries o.follow.config contents file read
  refused_reads_none refusal file bad (Reads_queries o asks config records loaded early is name) = not_both contents config records refusal loaded bad

  module _ (o : BoardOrder) (asks : AsksBoard words o) where
    -- nor where the last window starts too late
    pub late_reads_none : (config : PlainConfig) (records : List Records) (file : List ℕ) → IsBankLoaded contents config records
        → IsLate o.follow (bank_of config records) → IsBoardRead words contents QueriesText file → ⊥
    late_reads_none config records file loaded late (Reads_bank p also read) = bank_reads_no_queries p.follow.config contents file read
    late_reads_none config records file loaded late (Reads_queries p also other others too early is name) =
        let in_time : IsInTime o.follow (bank_of config records) =
        subst (λ (b : Bank). IsInTime o.follow b) (one_bank contents other config others records too loaded)
        (subst (λ (q : BoardOrder). IsInTime q.follow (bank_of other others)) (one_order words p o also asks) early) in
        omega (arith, late, in_time)

    pub queries_file : (file : List ℕ) → IsBoardRead words contents QueriesText file → file ≡ o.queries
    queries_file file (Reads_bank p also read) = absurd (bank_reads_no_queries p.follow.config contents file read)
    queries_file file (Reads_queries p also config records loaded early is name) = name ∙ ap (λ (q : BoardOrder). q.queries) (one_order words p o also asks)

    pub read_of_bank : (input : Input) (file : List ℕ) → input ≢ QueriesText → IsBoardRead words contents input file → IsBankRead o.follow.config contents input file
    read_of_bank input file other (Reads_bank p also read) =
        subst (λ (name : List ℕ). IsBankRead name contents input file) (ap (λ (q : BoardOrder). q.follow.config) (one_order words p o also asks)) read
    read_of_bank input file other (Reads_queries p also config records loaded early is name) = absurd (other is)
