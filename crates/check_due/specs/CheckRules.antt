-- The rules of what `check` owes for its words and for the bytes that it reads; and which files it reads.
use Rattle.std.specs.Prelude.{ℕ, ◌≡◌, List, Err}
use Rattle.definitions.specs.heard.Logs.{Records}
use Rattle.formats.specs.declared.refusal.Refusal.{Refusal}
use Rattle.formats.specs.declared.words.WordFault.{WordFault}
use Rattle.bank_config.specs.Configuration.{PlainConfig}
use Rattle.due.specs.declared.check_due.CheckDue.{CheckDue}
use Rattle.due.specs.declared.due.Due.TheVariants.{Refused}
use Rattle.due.specs.Banks.{Bank, bank_of, window_of}
use Rattle.due.specs.CertificateRules.{AsksCheck, CheckOrder, IsChecked}
use Rattle.due.specs.Inputs.{Certificate, Contents, Input}
use Rattle.due.specs.Loads.{IsBankLoaded, IsBankRead, IsBankRefused}
use Rattle.due.specs.Orders.{word_refusal}
use Rattle.check_due.specs.declared.check_owed.CheckOwed.{CheckOwed}
use Rattle.check_due.specs.declared.check_owed.CheckOwed.TheVariants as owes
use Rattle.check_due.specs.CheckOrders.{check_order_in}

-- This is told of a certificate's bytes for a bank: what is told of them in the window of a decode of it.
abbrev pub IsBankChecked : CheckOrder → Bank → List ℕ → CheckDue → Type 0
IsBankChecked o bank bytes due = IsChecked (window_of o.asked bank.receivers) bank bytes due

-- This is due, by the first rule that fits: refused words; of a bank the refusal of its configuration or of the first bad log; and
-- what is told of the certificate.
pub data IsCheckDue (words : List (List ℕ)) (contents : Contents) (owed : CheckOwed) : Type 0 where
  Bad_words : (fault : WordFault) → check_order_in words ≡ Err fault → owed ≡ owes.Told (Refused (word_refusal fault)) → IsCheckDue words contents owed
  Bad_bank : (o : CheckOrder) → AsksCheck words o
      → (refusal : Refusal) → IsBankRefused contents refusal → owed ≡ owes.Told (Refused refusal) → IsCheckDue words contents owed
  Judged : (o : CheckOrder) → AsksCheck words o
      → (config : PlainConfig) → (records : List Records) → IsBankLoaded contents config records
      → (due : CheckDue) → IsBankChecked o (bank_of config records) (contents Certificate) due → owed ≡ owes.Judged due → IsCheckDue words contents owed

-- The run reads this file as this input: one of the bank's; or the certificate, where the configuration and all logs are good.
pub data IsCheckRead (words : List (List ℕ)) (contents : Contents) (input : Input) (file : List ℕ) : Type 0 where
  Reads_bank : (o : CheckOrder) → AsksCheck words o → IsBankRead o.config contents input file → IsCheckRead words contents input file
  Reads_certificate : (o : CheckOrder) → AsksCheck words o
      → (config : PlainConfig) → (records : List Records) → IsBankLoaded contents config records
      → input ≡ Certificate → file ≡ o.certificate → IsCheckRead words contents input file
