-- What a check owes that ends with 0: no refusal ends so, and what is certified is the answer.
use Rattle.std.proofs.Common.{◌≡◌, ◌≢◌, ℕ, List, ◌++◌, codes, sym, ap, ◌∙◌}
use Rattle.signal_base.specs.declared.dut.StationDut.{StationDut}
use Rattle.signal_base.specs.declared.window.Window.{Window}
use Rattle.definitions.specs.declared.answer.Answer.{Answer}
use Rattle.definitions.specs.heard.Logs.{Records}
use Rattle.formats.specs.Bytes.{line}
use Rattle.formats.specs.Reports.{certified_report, report}
use Rattle.formats.specs.declared.refusal.Refusal.{Refusal}
use Rattle.formats.specs.declared.refusal.Refusal.TheVariants.{WordsUsage, WordsBad, WordsEmptyRange, ConfigTooLarge, ConfigNotToml, ConfigMissing, ConfigWrongKind, ConfigOutOfRange, ConfigUnknownKey, LogTooLarge, LogLine}
use Rattle.bank_config.specs.Configuration.{PlainConfig}
use Rattle.due.specs.declared.check_due.CheckDue.{CheckDue}
use Rattle.due.specs.declared.check_due.CheckDue.TheVariants.{Certified, NotCertified}
use Rattle.due.specs.declared.due.Due.TheVariants.{Refused}
use Rattle.due.specs.declared.status.Status.TheVariants.{Done}
use Rattle.due.specs.Banks.{Bank, IsBankAnswer, bank_of, duts_of, window_of}
use Rattle.due.specs.CertificateRules.{AsksCheck, CheckOrder, IsChecked}
use Rattle.due.specs.Dues.{refusal_status}
use Rattle.due.specs.Inputs.{Certificate, Contents}
use Rattle.due.specs.Loads.{IsBankLoaded}
use Rattle.due.specs.Orders.{word_refusal}
use Rattle.check_due.specs.declared.check_owed.CheckOwed.{CheckOwed}
use Rattle.check_due.specs.declared.check_owed.CheckOwed.TheVariants as owes
use Rattle.check_due.specs.CheckRules.{Bad_bank, Bad_words, IsCheckDue, Judged}
use Rattle.check_due.specs.CheckTexts.{owed_status, owed_text}

not_done : (r : Refusal) → refusal_status r ≢ Done
not_done WordsUsage = λ e. cc
not_done (WordsBad option) = λ e. cc
not_done WordsEmptyRange = λ e. cc
not_done ConfigTooLarge = λ e. cc
not_done ConfigNotToml = λ e. cc
not_done (ConfigMissing key receiver) = λ e. cc
not_done (ConfigWrongKind key receiver) = λ e. cc
not_done (ConfigOutOfRange key receiver) = λ e. cc
not_done ConfigUnknownKey = λ e. cc
not_done (LogTooLarge receiver name) = λ e. cc
not_done (LogLine receiver name number fault) = λ e. cc

no_refusal : (r : Refusal) (owed : CheckOwed) → owed ≡ owes.Told (Refused r) → owed_status owed ≡ Done → ⊥
no_refusal r owed e ends = not_done r (sym (ap owed_status e) ∙ ends)

-- what is certified is the answer
abbrev pub TellsAnswer : Type 0
TellsAnswer = (window : Window) (bank : Bank) (bytes : List ℕ) (w : Window) (answer : Answer) (duts : List StationDut)
    → IsChecked window bank bytes (Certified w answer duts)
    → (w ≡ window) × IsBankAnswer window bank answer × (duts ≡ duts_of window bank answer)

module _ (tells : TellsAnswer) (words : List (List ℕ)) (contents : Contents) where
  -- the report of the answer for a window
  abbrev PrintsAnswer : Window → Bank → CheckOwed → Type 0
  PrintsAnswer window bank owed =
      (answer : Answer) × IsBankAnswer window bank answer
      × (owed_text owed ≡ line (codes "certified") ++ report window (duts_of window bank answer) answer)

  abbrev Prints : CheckOwed → Type 0
  Prints owed =
      (o : CheckOrder) × AsksCheck words o × ((config : PlainConfig) × (records : List Records) × IsBankLoaded contents config records
      × PrintsAnswer (window_of o.asked (bank_of config records).receivers) (bank_of config records) owed)

  judged : (window : Window) (bank : Bank) (due : CheckDue) (owed : CheckOwed) → IsChecked window bank (contents Certificate) due → owed ≡ owes.Judged due
      → owed_status owed ≡ Done → PrintsAnswer window bank owed
  judged window bank (NotCertified fault) owed told e ends = absurd (bad (sym (ap owed_status e) ∙ ends))
    where
      bad : owed_status (owes.Judged (NotCertified fault)) ≡ Done → ⊥
      bad e = cc
  judged window bank (Certified w answer duts) owed told e ends =
      let parts = tells window bank (contents Certificate) w answer duts told in
      (answer, parts.1, ap owed_text e ∙ (λ i. certified_report (parts.0 i) (parts.2 i) answer))

  pub ends_with_the_answer : (owed : CheckOwed) → IsCheckDue words contents owed → owed_status owed ≡ Done → Prints owed
  ends_with_the_answer owed (Bad_words fault is e) ends = absurd (no_refusal (word_refusal fault) owed e ends)
  ends_with_the_answer owed (Bad_bank o asks refusal bad e) ends = absurd (no_refusal refusal owed e ends)
  ends_with_the_answer owed (Judged o asks config records loaded due told e) ends =
      (o, asks, (config, records, loaded, judged (window_of o.asked (bank_of config records).receivers) (bank_of config records) due owed told e ends))
