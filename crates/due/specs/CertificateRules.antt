-- The rules of certificates: which one a decode owes that is asked for it, and what a check owes of one that it reads.
use Rattle.std.specs.Prelude.{ℕ, ◌≡◌, ◌-◌, ◌<◌, ◌≤◌, List, [], ◌∷◌, replicate, Option, Some, None, Ok}
use Rattle.signal_base.specs.declared.window.Window.{Window}
use Rattle.definitions.specs.declared.answer.Answer.{Answer}
use Rattle.definitions.specs.declared.answer.Answer.TheVariants as answers
use Rattle.definitions.specs.heard.Costs.{Costs}
use Rattle.definitions.specs.heard.Logs.{Records}
use Rattle.definitions.specs.answers.Blocks.{items}
use Rattle.definitions.specs.answers.FirstTwo.{AreLeastTwo, IsWindowKey, answer_from}
use Rattle.formats.specs.declared.words.Asked.{Asked}
use Rattle.formats.specs.declared.refusal.Refusal.{Refusal}
use Rattle.formats.specs.Orders.{Checked, Order, order_of}
use Rattle.formats.specs.Orders.Order.{Check, Decode}
use Rattle.formats.specs.Words.{run_commands}
use Rattle.bank_config.specs.Configuration.{PlainConfig}
use Rattle.certificates.specs.declared.certificate.Line.{Line}
use Rattle.certificates.specs.Certificates.{Certificate}
use Rattle.certificates.specs.Judged.{IsBadCertificate, IsGoodCertificate}
use Rattle.certificates.specs.Validity.{AreTight, AreWalks, limit_named}
use Rattle.due.specs.declared.check_due.CertificateFault.{CertificateFault}
use Rattle.due.specs.declared.check_due.CheckDue.{CheckDue}
use Rattle.due.specs.declared.check_due.CheckDue.TheVariants.{Certified, NotCertified}
use Rattle.due.specs.Banks.{Bank, bank_of, costs_in, duts_of, window_of}
use Rattle.due.specs.CheckDues.{fault_of}
use Rattle.due.specs.Inputs.{Contents}
use Rattle.due.specs.Loads.{IsBankLoaded, IsBankRefused}
use Rattle.due.specs.Orders.{order_in}

-- as many parts as workers: the first has all lines, and the others have none
abbrev pub parts_for : ℕ → List Line → List (List Line)
parts_for workers ls = ls ∷ replicate (workers - 1) []

-- the certificate of a window under a ceiling that names these keys and has these lines
abbrev pub certificate_with : Window → ℕ → ℕ → Option ℕ → Option ℕ → List Line → Certificate
certificate_with window ceiling workers first second ls =
    record { head = record { window = window; ceiling = ceiling; first = first; second = second }; parts = parts_for workers ls }

-- The certificate that is owed for a window under costs and a ceiling, where so many workers search: it names the keys of the
-- first two admitted sequences, and its lines are the walks of all items, in their own order, in which no block above the limit
-- that these keys name is opened or reached.
pub record IsCertificateFor (costs : Costs) (window : Window) (ceiling workers : ℕ) (c : Certificate) : Type 0 where
  pub first : Option ℕ
  pub second : Option ℕ
  pub lines : List Line
  pub named : AreLeastTwo (IsWindowKey window costs ceiling) first second
  pub walks : AreWalks costs window (limit_named ceiling second) (items window) lines
  pub tight : AreTight (limit_named ceiling second) lines
  pub is : c ≡ certificate_with window ceiling workers first second lines

-- the one that is owed for a bank
abbrev pub IsBankCertificate : Window → Bank → ℕ → Certificate → Type 0
IsBankCertificate window bank workers c = IsCertificateFor (costs_in window bank) window bank.ceiling workers c

-- The bound n isn't below a cost that the answer names; and where it names one cost or none, n is above the ceiling.
abbrev pub IsNotCheaper : ℕ → ℕ → Answer → Type 0
IsNotCheaper ceiling n answers.Nothing = ceiling < n
IsNotCheaper ceiling n (answers.Decided cost q None) = (cost ≤ n) × (ceiling < n)
IsNotCheaper ceiling n (answers.Decided cost q (Some next)) = (cost ≤ n) × (next ≤ n)
IsNotCheaper ceiling n (answers.Undecided cost q r) = cost ≤ n

-- what words ask for that ask for a certificate: the configuration's file, the window, how many workers search, and the
-- certificate's file
pub record CertificateOrder : Type 0 where
  pub config : List ℕ
  pub asked : Asked
  pub workers : ℕ
  pub name : List ℕ

abbrev pub AsksCertificate : List (List ℕ) → CertificateOrder → Type 0
AsksCertificate words o = order_in words ≡ Ok (Decode o.config o.asked o.workers (Some o.name))

-- the file for a certificate, where words ask for one
abbrev pub name_asked : Checked Order → Option (List ℕ)
name_asked (Ok (Decode config asked workers certificate)) = certificate
name_asked other = None

abbrev pub certificate_name : List (List ℕ) → Option (List ℕ)
certificate_name words = name_asked (order_in words)

-- The certificate that is due, by the first rule that fits: none where no one asks for it; none where the configuration or a log
-- is refused; and that of the bank, whatever the answer is.
pub data IsCertificateDue (words : List (List ℕ)) (contents : Contents) (owed : Option Certificate) : Type 0 where
  Not_asked : certificate_name words ≡ None → owed ≡ None → IsCertificateDue words contents owed
  Not_loaded : (o : CertificateOrder) → AsksCertificate words o
      → (refusal : Refusal) → IsBankRefused contents refusal → owed ≡ None → IsCertificateDue words contents owed
  Written : (o : CertificateOrder) → AsksCertificate words o
      → (config : PlainConfig) → (records : List Records) → IsBankLoaded contents config records
      → (c : Certificate) → IsBankCertificate (window_of o.asked (bank_of config records).receivers) (bank_of config records) o.workers c
      → owed ≡ Some c → IsCertificateDue words contents owed

-- what words ask for that ask for a check: the configuration's file, the certificate's, and the window
pub record CheckOrder : Type 0 where
  pub config : List ℕ
  pub certificate : List ℕ
  pub asked : Asked

abbrev pub AsksCheck : List (List ℕ) → CheckOrder → Type 0
AsksCheck words o = order_of run_commands words ≡ Ok (Check o.config o.certificate o.asked)

-- the report of an answer that is certified
abbrev pub certified : Window → Bank → Answer → CheckDue
certified window bank answer = Certified window answer (duts_of window bank answer)

-- This is told of bytes that are to be a certificate for a bank: the first of all that is wrong with them; or the answer that they
-- name.
pub data IsChecked (window : Window) (bank : Bank) (bytes : List ℕ) (due : CheckDue) : Type 0 where
  Bad : (fault : CertificateFault) → IsBadCertificate (costs_in window bank) window bank.ceiling bytes (fault_of fault)
      → due ≡ NotCertified fault → IsChecked window bank bytes due
  Good : (first second : Option ℕ) → IsGoodCertificate (costs_in window bank) window bank.ceiling bytes first second
      → due ≡ certified window bank (answer_from first second) → IsChecked window bank bytes due
