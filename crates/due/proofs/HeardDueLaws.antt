-- Of what was heard one thing is due for all words and contents.
use Rattle.std.proofs.Common.{◌≡◌, ◌≢◌, ℕ, ◌≤◌, inl, inr, List, Ok, Err, refl, sym, ◌∙◌, ap, subst}
use Rattle.definitions.specs.time.Calendar.{century_minutes}
use Rattle.definitions.specs.heard.Logs.{Records}
use Rattle.formats.specs.declared.refusal.Refusal.{Refusal}
use Rattle.formats.specs.declared.words.WordFault.{WordFault}
use Rattle.formats.specs.Heard.{Hearing}
use Rattle.formats.specs.Orders.{Checked, Order}
use Rattle.bank_config.specs.Configuration.{PlainConfig}
use Rattle.due.specs.declared.due.Due.TheVariants as dues
use Rattle.due.specs.declared.heard_due.HeardDue.{HeardDue}
use Rattle.due.specs.declared.heard_due.HeardDue.TheVariants.{Told, Heard}
use Rattle.due.specs.declared.status.Status.TheVariants.{Failed, NoMemory}
use Rattle.due.specs.Banks.{Bank, bank_of, window_of}
use Rattle.due.specs.Configurations.{IsConfiguration, logs_of}
use Rattle.due.specs.HeardRuns.{AsksHeard, IsHeardDue, Bad_words, Bad_bank, Answered, IsShown, heard_order, heard_status, shown}
use Rattle.due.specs.Inputs.{Configuration, Contents}
use Rattle.due.specs.Loads.{IsBankLoaded, Bad_configuration, Bad_log}
use Rattle.due.specs.LogFiles.{AreGood}
use Rattle.due.specs.Orders.{BankOrder, word_refusal}
use Rattle.due.proofs.ConfigurationLaws as configurations
use Rattle.due.proofs.DueLaws.{bank_answer_is_one, bank_has_answer, not_both, one_refusal}
use Rattle.due.proofs.HeardWordLaws.{asked_in_range, decode_asks, one_asked}
use Rattle.due.proofs.LogFileLaws.{AreJudged, all_good_once, all_judged}
use Rattle.due.proofs.StatusLaws as statuses

ok_or_err : (c : Checked Order) (order : Order) (fault : WordFault) → c ≡ Ok order → c ≡ Err fault → ⊥
ok_or_err c order fault e f = cc

same_fault : (c : Checked Order) (a b : WordFault) (x y : HeardDue Hearing) → c ≡ Err a → c ≡ Err b
    → x ≡ Told (dues.Refused (word_refusal a)) → y ≡ Told (dues.Refused (word_refusal b)) → x ≡ y
same_fault c a b x y e f g h = cc

same_refusal : (r s : Refusal) (x y : HeardDue Hearing) → r ≡ s → x ≡ Told (dues.Refused r) → y ≡ Told (dues.Refused s) → x ≡ y
same_refusal r s x y e f g = cc

-- words are refused, or they ask something
refused_or_asks : (words : List (List ℕ)) (fault : WordFault) (o : BankOrder) → heard_order words ≡ Err fault → AsksHeard words o → ⊥
refused_or_asks words fault o bad asks = ok_or_err (heard_order words) asks.0 fault asks.1 bad

module _ (contents : Contents) where
  -- one answer is shown
  one_shown : (o : BankOrder) (bank : Bank) (x y : HeardDue Hearing) → o.asked.to ≤ century_minutes → IsShown o bank x → IsShown o bank y → x ≡ y
  one_shown o bank x y century h k =
      h.2 ∙ ap (shown (window_of o.asked bank.receivers) bank) (bank_answer_is_one o.asked bank h.0 k.0 century h.1 k.1) ∙ sym k.2

  -- of one bank
  one_loaded : (o : BankOrder) (config other : PlainConfig) (records others : List Records) (x y : HeardDue Hearing) → o.asked.to ≤ century_minutes
      → IsBankLoaded contents config records → IsBankLoaded contents other others
      → IsShown o (bank_of config records) x → IsShown o (bank_of other others) y → x ≡ y
  one_loaded o config other records others x y century loaded also h k =
      let same = configurations.one_configuration (contents Configuration) config other loaded.says also.says in
      let alike = all_good_once contents (logs_of other) records others (subst (λ (c : PlainConfig). AreGood contents (logs_of c) records) same loaded.good) also.good in
      one_shown o (bank_of other others) x y century
      (subst (λ (all : List Records). IsShown o (bank_of other all) x) alike (subst (λ (c : PlainConfig). IsShown o (bank_of c records) x) same h)) k

  pub one_heard : (words : List (List ℕ)) (x y : HeardDue Hearing) → IsHeardDue words contents x → IsHeardDue words contents y → x ≡ y
  one_heard words x y (Bad_words a bad e) (Bad_words b also f) = same_fault (heard_order words) a b x y bad also e f
  one_heard words x y (Bad_words a bad e) (Bad_bank p asks s worse f) = absurd (refused_or_asks words a p bad asks)
  one_heard words x y (Bad_words a bad e) (Answered p asks other others also k) = absurd (refused_or_asks words a p bad asks)
  one_heard words x y (Bad_bank o asks r worse e) (Bad_words b bad f) = absurd (refused_or_asks words b o bad asks)
  one_heard words x y (Bad_bank o asks r worse e) (Bad_bank p also s bad f) = same_refusal r s x y (one_refusal contents r s worse bad) e f
  one_heard words x y (Bad_bank o asks r worse e) (Answered p also other others loaded k) = absurd (not_both contents other others r loaded worse)
  one_heard words x y (Answered o asks config records loaded h) (Bad_words b bad f) = absurd (refused_or_asks words b o bad asks)
  one_heard words x y (Answered o asks config records loaded h) (Bad_bank p also s bad f) = absurd (not_both contents config records s loaded bad)
  one_heard words x y (Answered o asks config records loaded h) (Answered p also other others loaded_too k) =
      let same = one_asked words o p asks also in
      one_loaded p config other records others x y (asked_in_range words p also).century loaded loaded_too
      (subst (λ (b : BankOrder). IsShown b (bank_of config records) x) same h) k

  -- something is due
  asked_owes : (words : List (List ℕ)) (o : BankOrder) → AsksHeard words o → (due : HeardDue Hearing) × IsHeardDue words contents due
  asked_owes words o asks = by_text (configurations.text_has_outcome (contents Configuration))
    where
      by_logs : (config : PlainConfig) → IsConfiguration (contents Configuration) config → AreJudged contents (logs_of config) → (due : HeardDue Hearing) × IsHeardDue words contents due
      by_logs config is (inr bad) = (Told (dues.Refused bad.0), Bad_bank o asks bad.0 (Bad_log config is bad.1) refl)
      by_logs config is (inl good) =
          let bank = bank_of config good.0 in
          let found = bank_has_answer o.asked bank (asked_in_range words o asks).century in
          (shown (window_of o.asked bank.receivers) bank found.0, Answered o asks config good.0 (record { says = is; good = good.1 }) (found.0, found.1, refl))

      by_text : configurations.HasOutcome (contents Configuration) → (due : HeardDue Hearing) × IsHeardDue words contents due
      by_text (inr bad) = (Told (dues.Refused bad.0), Bad_bank o asks bad.0 (Bad_configuration bad.1) refl)
      by_text (inl good) = by_logs good.0 good.1 (all_judged contents (logs_of good.0))

  pub some_heard : (words : List (List ℕ)) → (due : HeardDue Hearing) × IsHeardDue words contents due
  some_heard words = by_order (heard_order words) refl
    where
      by_order : (c : Checked Order) → heard_order words ≡ c → (due : HeardDue Hearing) × IsHeardDue words contents due
      by_order (Err fault) is = (Told (dues.Refused (word_refusal fault)), Bad_words fault is refl)
      by_order (Ok order) is = let asked = decode_asks words order is in asked_owes words asked.0 (order, is, asked.1)

pub no_failure_is_shown : (due : HeardDue Hearing) → (heard_status due ≢ Failed) × (heard_status due ≢ NoMemory)
no_failure_is_shown (Told due) = statuses.no_failure_is_due due
no_failure_is_shown (Heard hearing) = (λ e. cc, λ e. cc)
