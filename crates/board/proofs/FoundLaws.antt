-- What is found due of `board`, and what a file that fails is of.
use Rattle.std.proofs.Common.{◌≡◌, ◌≢◌, ℕ, inl, inr, List, [], ◌∷◌, refl, sym, ap, ◌∙◌, subst, arith}
use Rattle.definitions.specs.heard.Logs.{Records}
use Rattle.formats.specs.declared.refusal.Refusal.{Refusal}
use Rattle.bank_files.specs.Told.{Finds}
use Rattle.bank_files.specs.Seen.{ReadFails, Seen}
use Rattle.bank_config.specs.Configuration.{PlainConfig}
use Rattle.due.specs.declared.due.Due.TheVariants.{Refused}
use Rattle.due.specs.Banks.{Bank, bank_of}
use Rattle.due.specs.Configurations.{logs_of}
use Rattle.due.specs.Inputs.{Certificate, CertificateAt, Configuration, Contents, FramesText, Input, LogOf, QueriesText}
use Rattle.due.specs.Loads.{IsBankLoaded, IsBankRead, Reads_configuration, Reads_log}
use Rattle.due.specs.LogFiles.{IsLogRead, LogFile}
use Rattle.due.proofs.DueLaws.{not_both, one_bank}
use Rattle.due.proofs.ReadLaws.{bank_read_back, bank_read_too, loaded_too}
use Rattle.board_due.specs.declared.board_due.BoardDue.{BoardDue}
use Rattle.board_due.specs.declared.board_due.BoardDue.TheVariants.{Told}
use Rattle.board_due.specs.BoardOrders.{AsksBoard, BoardOrder}
use Rattle.board_due.specs.BoardPlans.{board_plan}
use Rattle.board_due.specs.BoardRules.{Answered, Asked, Bad_bank, Bad_count, IsInTime, IsLate, Reads_bank, Reads_queries}
use Rattle.board_due.proofs.BoardOrderLaws.{one_order}
use Rattle.bank.specs.Ending.{Agrees, IsFound, MayBeRead, MayHold, SomeReadFails}
use Rattle.bank.specs.Loading.{BankAgrees, BankMayBeRead, FailsLoading, IsLoaded, IsRefusedLoading}
use Rattle.bank.proofs.ContentLaws.{found_may_hold, told_bytes, told_may_hold}
use Rattle.board.specs.Asking.{IsBoardedBy}

-- the contents with these bytes as the text of queries
abbrev with_queries : Contents → List ℕ → Contents
with_queries base bytes Configuration = base Configuration
with_queries base bytes (LogOf k) = base (LogOf k)
with_queries base bytes Certificate = base Certificate
with_queries base bytes (CertificateAt i) = base (CertificateAt i)
with_queries base bytes FramesText = base FramesText
with_queries base bytes QueriesText = bytes

-- a bank's files are read as other inputs
no_log : (contents : Contents) (logs : List LogFile) (input : Input) (file : List ℕ) → IsLogRead contents logs input file → input ≢ QueriesText
no_log contents [] input file none e = none
no_log contents (log ∷ logs) input file (inl here) e = other log.receiver (sym here.0 ∙ e)
  where
    other : (k : ℕ) → LogOf k ≡ QueriesText → ⊥
    other k e = cc
no_log contents (log ∷ logs) input file (inr later) e = no_log contents logs input file later.2 e

no_queries : (name : List ℕ) (contents : Contents) (input : Input) (file : List ℕ) → IsBankRead name contents input file → input ≢ QueriesText
no_queries name contents input file (Reads_configuration is f) e = other (sym is ∙ e)
  where
    other : Configuration ≡ QueriesText → ⊥
    other e = cc
no_queries name contents input file (Reads_log config is read) e = no_log contents (logs_of config) input file read e

elsewhere : (base : Contents) (bytes : List ℕ) (input : Input) → input ≢ QueriesText → base input ≡ with_queries base bytes input
elsewhere base bytes Configuration apart = refl
elsewhere base bytes (LogOf k) apart = refl
elsewhere base bytes Certificate apart = refl
elsewhere base bytes (CertificateAt i) apart = refl
elsewhere base bytes FramesText apart = refl
elsewhere base bytes QueriesText apart = absurd (apart refl)

module _ (old : Seen) (name : List ℕ) (base : Contents) (bytes : List ℕ) where
  same_of_bank : (input : Input) (file : List ℕ) → IsBankRead name base input file → base input ≡ with_queries base bytes input
  same_of_bank input file read = elsewhere base bytes input (no_queries name base input file read)

  back : (input : Input) (file : List ℕ) → IsBankRead name (with_queries base bytes) input file → IsBankRead name base input file
  back input file read = bank_read_back name base (with_queries base bytes) same_of_bank input file read

  -- what is told of a bank's files is told with any queries
  agrees_with : BankAgrees old name base → BankAgrees old name (with_queries base bytes)
  agrees_with agrees input file read =
      subst (λ (b : List ℕ). Finds (old.told file) (λ held. b ≡ held)) (same_of_bank input file (back input file read)) (agrees input file (back input file read))

  may_with : BankMayBeRead old name base → BankMayBeRead old name (with_queries base bytes)
  may_with may input file read =
      subst (λ (b : List ℕ). MayHold (old.told file) b) (same_of_bank input file (back input file read)) (may input file (back input file read))

  loaded_with : (config : PlainConfig) (records : List Records) → IsBankLoaded base config records → IsBankLoaded (with_queries base bytes) config records
  loaded_with config records loaded = loaded_too name base (with_queries base bytes) same_of_bank config records loaded

module _ (words : List (List ℕ)) (o : BoardOrder) (asks : AsksBoard words o) where
  -- what is read agrees with what is told, where the bank's files do and the queries do
  plan_agrees : (old : Seen) (contents : Contents) → BankAgrees old o.follow.config contents
      → ((config : PlainConfig) (records : List Records) → IsBankLoaded contents config records → IsInTime o.follow (bank_of config records)
      → Finds (old.told o.queries) (λ held. contents QueriesText ≡ held)) → Agrees (board_plan words) old contents
  plan_agrees old contents bank queries input file (Reads_bank p also read) =
      bank input file (subst (λ (q : BoardOrder). IsBankRead q.follow.config contents input file) (one_order words p o also asks) read)
  plan_agrees old contents bank queries input file (Reads_queries p also config records loaded early is at) =
      let same = one_order words p o also asks in
      let found = queries config records loaded (subst (λ (q : BoardOrder). IsInTime q.follow (bank_of config records)) same early) in
      subst (λ (f : List ℕ). Finds (old.told f) (λ held. contents input ≡ held)) (sym (at ∙ ap (λ (q : BoardOrder). q.queries) same))
      (subst (λ (i : Input). Finds (old.told o.queries) (λ held. contents i ≡ held)) (sym is) found)

  plan_may : (old : Seen) (contents : Contents) → BankMayBeRead old o.follow.config contents → MayHold (old.told o.queries) (contents QueriesText)
      → MayBeRead (board_plan words) old contents
  plan_may old contents bank queries input file (Reads_bank p also read) =
      bank input file (subst (λ (q : BoardOrder). IsBankRead q.follow.config contents input file) (one_order words p o also asks) read)
  plan_may old contents bank queries input file (Reads_queries p also config records loaded early is at) =
      let same = one_order words p o also asks in
      subst (λ (f : List ℕ). MayHold (old.told f) (contents input)) (sym (at ∙ ap (λ (q : BoardOrder). q.queries) same))
      (subst (λ (i : Input). MayHold (old.told o.queries) (contents i)) (sym is) queries)

  -- what is due of what was loaded
  too_late : (contents : Contents) (config : PlainConfig) (records : List Records) → IsBankLoaded contents config records → IsLate o.follow (bank_of config records)
      → (c : PlainConfig) (rs : List Records) → IsBankLoaded contents c rs → IsInTime o.follow (bank_of c rs) → ⊥
  too_late contents config records loaded late c rs also early =
      let same = subst (λ (b : Bank). IsInTime o.follow b) (one_bank contents c config rs records also loaded) early in
      omega (arith, late, same)

  pub due_found : (old : Seen) (config : PlainConfig) (records : List Records) (due : BoardDue) → IsLoaded old o.follow.config config records
      → IsBoardedBy o (bank_of config records) old due → IsFound (board_plan words) old due
  due_found old config records due (base, agrees, loaded) (inl (late, e)) = (
    base,
    plan_agrees old base agrees (λ c rs also early. absurd (too_late base config records loaded late c rs also early)),
    Answered o asks config records loaded (Bad_count late e),
  )
  due_found old config records due (base, agrees, loaded) (inr (early, (bytes, found, (t, is, answered)))) = (
    with_queries base bytes,
    plan_agrees old (with_queries base bytes) (agrees_with old o.follow.config base bytes agrees) (λ c rs also in_time. found),
    Answered o asks config records (loaded_with old o.follow.config base bytes config records loaded) (Asked early t is answered),
  )

  -- what is refused of what was loaded
  pub refusal_found : (old : Seen) (refusal : Refusal) → IsRefusedLoading old o.follow.config refusal → IsFound (board_plan words) old (Told (Refused refusal))
  refusal_found old refusal (contents, agrees, bad) =
      (contents, plan_agrees old contents agrees (λ c rs also early. absurd (not_both contents c rs refusal also bad)), Bad_bank o asks refusal bad refl)

  -- a file failed while a configuration and its logs were loaded
  pub failure_found : (old new : Seen) → FailsLoading old new o.follow.config → SomeReadFails (board_plan words) old new
  failure_found old new (base, input, file, may, read, fails) =
      let bytes = told_bytes (old.told o.queries) in
      let name = o.follow.config in (
        with_queries base bytes,
        input,
        file,
        plan_may old (with_queries base bytes) (may_with old name base bytes may) (told_may_hold (old.told o.queries)),
        Reads_bank o asks (bank_read_too name base (with_queries base bytes) (same_of_bank old name base bytes) input file read),
        fails,
      )

  -- or the file of the queries did, whatever it holds
  pub queries_failed : (old new : Seen) (config : PlainConfig) (records : List Records) → IsLoaded old o.follow.config config records → IsInTime o.follow (bank_of config records)
      → ReadFails o.queries old new → SomeReadFails (board_plan words) old new
  queries_failed old new config records (base, agrees, loaded) early fails =
      let bytes = told_bytes (old.told o.queries) in
      let name = o.follow.config in (
        with_queries base bytes,
        QueriesText,
        o.queries,
        plan_may old (with_queries base bytes)
            (may_with old name base bytes (λ n f r. found_may_hold (old.told f) (base n) (agrees n f r))) (told_may_hold (old.told o.queries)),
        Reads_queries o asks config records (loaded_with old name base bytes config records loaded) early refl refl,
        fails,
      )
