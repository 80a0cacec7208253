-- Something is due for all words and contents, and only one thing.
use Rattle.std.proofs.Common.{◌≡◌, ℕ, ◌≤◌, ◌⊎◌, inl, inr, true, List, Option, Some, Ok, Err, refl, sym, ◌∙◌, ap, subst, arith}
use Rattle.definitions.specs.declared.answer.Answer.{Answer}
use Rattle.definitions.specs.time.Calendar.{century_minutes}
use Rattle.definitions.specs.heard.Logs.{Records}
use Rattle.definitions.proofs.AnswerLaws.{window_answer_is_one}
use Rattle.definitions.proofs.ExistLaws.{an_answer}
use Rattle.formats.specs.declared.refusal.Refusal.{Refusal}
use Rattle.formats.specs.declared.words.Asked.{Asked}
use Rattle.formats.specs.OrderRanges.{is_run_order}
use Rattle.formats.specs.Orders.{Order, Checked}
use Rattle.formats.specs.Orders.Order.{Decode, Check, Feed, Encode, Trial}
use Rattle.bank_config.specs.Configuration.{PlainConfig}
use Rattle.trial_log.specs.Trials.{trial_receivers, trial_sequence, trial_station}
use Rattle.due.specs.declared.due.Due.{Due}
use Rattle.due.specs.declared.due.Due.TheVariants as dues
use Rattle.due.specs.Banks.{Bank, IsBankAnswer, bank_of, costs_in, window_of}
use Rattle.due.specs.Configurations.{IsConfiguration, logs_of}
use Rattle.due.specs.Loads.{IsBankLoaded, IsBankRefused, Bad_configuration, Bad_log}
use Rattle.due.specs.Inputs.{Configuration, Contents}
use Rattle.due.specs.LogFiles.{AreGood, IsFirstBad}
use Rattle.due.specs.Orders.{BankOrder, Report, Sentences, bank_order, of_run, order_in, word_refusal}
use Rattle.due.specs.Rules.{AsksBank, IsDue, Bad_words, Listed, Tried, Bad_bank, Answered, IsReported, reported}
use Rattle.due.specs.Trials.{trial_asked, trial_bank}
use Rattle.due.proofs.WordLaws.{asked_of_bank, is_of_run, is_run}
use Rattle.due.proofs.ConfigurationLaws as configurations
use Rattle.due.proofs.LogFileLaws.{AreJudged, all_good_once, all_good_none_bad, all_judged, first_bad_once}

-- the answer for a bank: there is one, and only one
pub bank_answer_is_one : (asked : Asked) (bank : Bank) (a b : Answer) → asked.to ≤ century_minutes
    → IsBankAnswer (window_of asked bank.receivers) bank a → IsBankAnswer (window_of asked bank.receivers) bank b → a ≡ b
bank_answer_is_one asked bank a b century =
    window_answer_is_one (window_of asked bank.receivers) (costs_in (window_of asked bank.receivers) bank) bank.ceiling a b century

pub bank_has_answer : (asked : Asked) (bank : Bank) → asked.to ≤ century_minutes → (a : Answer) × IsBankAnswer (window_of asked bank.receivers) bank a
bank_has_answer asked bank century =
    an_answer (window_of asked bank.receivers) (costs_in (window_of asked bank.receivers) bank) bank.ceiling century

-- the minutes of a trial are those of the century
whole_century : trial_asked.to ≤ century_minutes
whole_century = omega arith

module _ (contents : Contents) where
  -- what is due where a bank is asked about
  abbrev IsDueOfBank : BankOrder → Due → Type 0
  IsDueOfBank o due =
      ((refusal : Refusal) × IsBankRefused contents refusal × (due ≡ dues.Refused refusal))
      ⊎ ((config : PlainConfig) × (records : List Records) × IsBankLoaded contents config records × IsReported o (bank_of config records) due)

  -- what is due for an order
  abbrev IsDueOfOrder : Order → Due → Type 0
  IsDueOfOrder (Encode station minute announced) due = due ≡ dues.Listing station minute announced
  IsDueOfOrder (Trial number workers) due =
      (answer : Answer) × IsBankAnswer (window_of trial_asked (trial_bank number).receivers) (trial_bank number) answer
      × (due ≡ dues.Trial number (trial_station number) (trial_receivers number) (trial_sequence number) answer)
  IsDueOfOrder order due = (o : BankOrder) × (bank_order order ≡ Some o) × IsDueOfBank o due

  -- the rules by what words come to
  abbrev IsDueBy : Checked Order → Due → Type 0
  IsDueBy (Err fault) due = due ≡ dues.Refused (word_refusal fault)
  IsDueBy (Ok order) due = IsDueOfOrder order due

  of_bank : (order : Order) (o : BankOrder) (due : Due) → bank_order order ≡ Some o → IsDueOfBank o due → IsDueOfOrder order due
  of_bank (Encode station minute announced) o due e h = absurd cc
  of_bank (Trial number workers) o due e h = absurd cc
  of_bank order o due e h = (o, e, h)

  asked : (words : List (List ℕ)) (o : BankOrder) (due : Due) → AsksBank words o → IsDueOfBank o due → IsDueBy (order_in words) due
  asked words o due asks h = subst (λ (c : Checked Order). IsDueBy c due) (sym asks.1) (of_bank asks.0 o due asks.2 h)

  rule : (words : List (List ℕ)) (due : Due) → IsDue words contents due → IsDueBy (order_in words) due
  rule words due (Bad_words fault is e) = subst (λ (c : Checked Order). IsDueBy c due) (sym is) e
  rule words due (Listed station minute announced is e) = subst (λ (c : Checked Order). IsDueBy c due) (sym is) e
  rule words due (Tried number workers is answer of e) = subst (λ (c : Checked Order). IsDueBy c due) (sym is) (answer, of, e)
  rule words due (Bad_bank o asks refusal bad e) = asked words o due asks (inl (refusal, bad, e))
  rule words due (Answered o asks config records loaded reported) = asked words o due asks (inr (config, records, loaded, reported))

  -- one thing is due
  same_refusal : (r s : Refusal) (x y : Due) → r ≡ s → x ≡ dues.Refused r → y ≡ dues.Refused s → x ≡ y
  same_refusal r s x y e f g = cc

  same_told : (o : BankOrder) (bank : Bank) (a b : Answer) (x y : Due) → a ≡ b → x ≡ reported o.wanted (window_of o.asked bank.receivers) bank a
      → y ≡ reported o.wanted (window_of o.asked bank.receivers) bank b → x ≡ y
  same_told o bank a b x y e f g = f ∙ ap (reported o.wanted (window_of o.asked bank.receivers) bank) e ∙ sym g

  one_told : (o : BankOrder) (bank : Bank) (x y : Due) → o.asked.to ≤ century_minutes → IsReported o bank x → IsReported o bank y → x ≡ y
  one_told o bank x y century h k =
      same_told o bank h.0 k.0 x y (bank_answer_is_one o.asked bank h.0 k.0 century h.1 k.1) h.2 k.2

  -- a bank is refused in one way, or it is loaded, and one bank is
  pub one_refusal : (r s : Refusal) → IsBankRefused contents r → IsBankRefused contents s → r ≡ s
  one_refusal r s (Bad_configuration h) (Bad_configuration k) = configurations.one_refusal (contents Configuration) r s h k
  one_refusal r s (Bad_configuration h) (Bad_log config is k) = absurd (configurations.not_both (contents Configuration) config r is h)
  one_refusal r s (Bad_log config is h) (Bad_configuration k) = absurd (configurations.not_both (contents Configuration) config s is k)
  one_refusal r s (Bad_log config is h) (Bad_log other also k) =
      let same = configurations.one_configuration (contents Configuration) config other is also in
      first_bad_once contents (logs_of other) r s (subst (λ (c : PlainConfig). IsFirstBad contents (logs_of c) r) same h) k

  pub not_both : (config : PlainConfig) (records : List Records) (refusal : Refusal) → IsBankLoaded contents config records → IsBankRefused contents refusal → ⊥
  not_both config records refusal loaded (Bad_configuration bad) = configurations.not_both (contents Configuration) config refusal loaded.says bad
  not_both config records refusal loaded (Bad_log other is bad) =
      let same = configurations.one_configuration (contents Configuration) other config is loaded.says in
      all_good_none_bad contents (logs_of config) records refusal loaded.good (subst (λ (c : PlainConfig). IsFirstBad contents (logs_of c) refusal) same bad)

  pub one_bank : (config other : PlainConfig) (records others : List Records) → IsBankLoaded contents config records → IsBankLoaded contents other others
      → bank_of config records ≡ bank_of other others
  one_bank config other records others loaded also =
      let same = configurations.one_configuration (contents Configuration) config other loaded.says also.says in
      let alike = all_good_once contents (logs_of other) records others (subst (λ (c : PlainConfig). AreGood contents (logs_of c) records) same loaded.good) also.good in
      ap (λ (c : PlainConfig). bank_of c records) same ∙ ap (bank_of other) alike

  one_due_of_bank : (o : BankOrder) (x y : Due) → o.asked.to ≤ century_minutes → IsDueOfBank o x → IsDueOfBank o y → x ≡ y
  one_due_of_bank o x y century (inl h) (inl k) = same_refusal h.0 k.0 x y (one_refusal h.0 k.0 h.1 k.1) h.2 k.2
  one_due_of_bank o x y century (inl h) (inr k) = absurd (not_both k.0 k.1 h.0 k.2 h.1)
  one_due_of_bank o x y century (inr h) (inl k) = absurd (not_both h.0 h.1 k.0 h.2 k.1)
  one_due_of_bank o x y century (inr h) (inr k) =
      one_told o (bank_of k.0 k.1) x y century (subst (λ (b : Bank). IsReported o b x) (one_bank h.0 k.0 h.1 k.1 h.2 k.2) h.3) k.3

  same_order : {A : Type 0} (a b : A) (found : Option A) → found ≡ Some a → found ≡ Some b → a ≡ b
  same_order a b found e f = cc

  same_trial : (number : ℕ) (a b : Answer) (x y : Due) → a ≡ b
      → x ≡ dues.Trial number (trial_station number) (trial_receivers number) (trial_sequence number) a
      → y ≡ dues.Trial number (trial_station number) (trial_receivers number) (trial_sequence number) b → x ≡ y
  same_trial number a b x y e f g = cc

  abbrev InCentury : Order → Type 0
  InCentury order = (o : BankOrder) → bank_order order ≡ Some o → o.asked.to ≤ century_minutes

  one_due_of_order : (order : Order) (x y : Due) → InCentury order → IsDueOfOrder order x → IsDueOfOrder order y → x ≡ y
  one_due_of_order (Encode station minute announced) x y century h k = h ∙ sym k
  one_due_of_order (Trial number workers) x y century h k =
      same_trial number h.0 k.0 x y (bank_answer_is_one trial_asked (trial_bank number) h.0 k.0 whole_century h.1 k.1) h.2 k.2
  one_due_of_order order x y century h k =
      let same = same_order h.0 k.0 (bank_order order) h.1 k.1 in
      one_due_of_bank k.0 x y (century k.0 k.1) (subst (λ o. IsDueOfBank o x) same h.2) k.2

  one_due_by : (words : List (List ℕ)) (c : Checked Order) → order_in words ≡ c → (x y : Due) → IsDueBy c x → IsDueBy c y → x ≡ y
  one_due_by words (Err fault) is x y h k = h ∙ sym k
  one_due_by words (Ok order) is x y h k =
      one_due_of_order order x y (λ o e. (asked_of_bank words o (order, is, e)).century) h k

  pub one_due : (words : List (List ℕ)) (x y : Due) → IsDue words contents x → IsDue words contents y → x ≡ y
  one_due words x y h k = one_due_by words (order_in words) refl x y (rule words x h) (rule words y k)

  -- a bank is loaded, or something of it is refused
  abbrev pub IsBankJudged : Type 0
  IsBankJudged = ((config : PlainConfig) × (records : List Records) × IsBankLoaded contents config records) ⊎ ((refusal : Refusal) × IsBankRefused contents refusal)

  pub bank_judged : IsBankJudged
  bank_judged = by_text (configurations.text_has_outcome (contents Configuration))
    where
      by_logs : (config : PlainConfig) → IsConfiguration (contents Configuration) config → AreJudged contents (logs_of config) → IsBankJudged
      by_logs config is (inr bad) = inr (bad.0, Bad_log config is bad.1)
      by_logs config is (inl good) = inl (config, good.0, record { says = is; good = good.1 })

      by_text : configurations.HasOutcome (contents Configuration) → IsBankJudged
      by_text (inr bad) = inr (bad.0, Bad_configuration bad.1)
      by_text (inl good) = by_logs good.0 good.1 (all_judged contents (logs_of good.0))

  -- something is due
  bank_owes : (words : List (List ℕ)) (o : BankOrder) → AsksBank words o → (due : Due) × IsDue words contents due
  bank_owes words o asks = go bank_judged
    where
      go : IsBankJudged → (due : Due) × IsDue words contents due
      go (inr bad) = (dues.Refused bad.0, Bad_bank o asks bad.0 bad.1 refl)
      go (inl good) =
          let bank = bank_of good.0 good.1 in
          let found = bank_has_answer o.asked bank (asked_of_bank words o asks).century in
          (reported o.wanted (window_of o.asked bank.receivers) bank found.0, Answered o asks good.0 good.1 good.2 (found.0, found.1, refl))

  order_owes : (words : List (List ℕ)) (order : Order) → order_in words ≡ Ok order → of_run order ≡ Ok order → is_run_order order ≡ true → (due : Due) × IsDue words contents due
  order_owes words (Decode config asked workers certificate) is made run =
      bank_owes words (record { config = config; asked = asked; wanted = Report certificate }) (Decode config asked workers certificate, is, refl)
  order_owes words (Feed config asked workers) is made run =
      bank_owes words (record { config = config; asked = asked; wanted = Sentences }) (Feed config asked workers, is, refl)
  order_owes words (Encode station minute announced) is made run = (dues.Listing station minute announced, Listed station minute announced is refl)
  order_owes words (Trial number workers) is made run =
      let found = bank_has_answer trial_asked (trial_bank number) whole_century in
      (dues.Trial number (trial_station number) (trial_receivers number) (trial_sequence number) found.0, Tried number workers is found.0 found.1 refl)
  order_owes words (Check config certificate asked) is made run = absurd cc
  order_owes words order is made run = absurd cc

  pub some_due : (words : List (List ℕ)) → (due : Due) × IsDue words contents due
  some_due words = by_order (order_in words) refl
    where
      by_order : (c : Checked Order) → order_in words ≡ c → (due : Due) × IsDue words contents due
      by_order (Err fault) is = (dues.Refused (word_refusal fault), Bad_words fault is refl)
      by_order (Ok order) is = order_owes words order is (is_of_run words order is).1 (is_run words order is)
