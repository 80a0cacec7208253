-- What a sweep owes that is asked for certificates: one for each offset that is swept, each of the window there, and then the report.
use Rattle.std.specs.Prelude.{ℕ, ◌≡◌, ◌++◌, true, List, [], ◌∷◌, Option, Some, None, Ok}
use Rattle.signal_base.specs.declared.window.Window.{Window}
use Rattle.definitions.specs.heard.Logs.{Records}
use Rattle.formats.specs.declared.refusal.Refusal.{Refusal}
use Rattle.formats.specs.declared.words.Asked.{Asked}
use Rattle.formats.specs.Orders.{Checked, Order, order_of}
use Rattle.formats.specs.Orders.Order.{Sweep}
use Rattle.formats.specs.Words.{reach_commands}
use Rattle.bank_config.specs.Configuration.{PlainConfig}
use Rattle.certificates.specs.Certificates.{Certificate}
use Rattle.certificates.specs.Texts.{certificate_text}
use Rattle.due.specs.declared.due.Due.{Due}
use Rattle.due.specs.Banks.{Bank, bank_of, window_of}
use Rattle.due.specs.CertificateRules.{IsBankCertificate}
use Rattle.due.specs.Inputs.{Contents}
use Rattle.due.specs.Loads.{IsBankLoaded, IsBankRefused}
use Rattle.due.specs.Outputs.{Output, printed}
use Rattle.sweep_due.specs.declared.standing.Standing.{Standing}
use Rattle.sweep_due.specs.CertificateNames.{file_at}
use Rattle.sweep_due.specs.Phases.{swept_offsets, window_at}
use Rattle.sweep_due.specs.Standings.{with_two}

-- what words ask that ask for certificates: the configuration's file, the window, how many workers search, and how the names of the
-- certificates' files begin
pub record CertificatesOrder : Type 0 where
  pub config : List ℕ
  pub asked : Asked
  pub workers : ℕ
  pub name : List ℕ

abbrev pub AsksCertificates : List (List ℕ) → CertificatesOrder → Type 0
AsksCertificates words o = order_of reach_commands words ≡ Ok (Sweep o.config o.asked o.workers (Some o.name))

-- how the names of the certificates' files begin, where words ask for these
abbrev pub name_asked : Checked Order → Option (List ℕ)
name_asked (Ok (Sweep config asked workers certificate)) = certificate
name_asked other = None

abbrev pub certificates_name : List (List ℕ) → Option (List ℕ)
certificates_name words = name_asked (order_of reach_commands words)

-- there is one certificate for each offset, and P holds of the two
abbrev pub EachAt : (ℕ → Certificate → Type 0) → List ℕ → List Certificate → Type 0
EachAt P [] cs = cs ≡ []
EachAt P (i ∷ is) [] = ⊥
EachAt P (i ∷ is) (c ∷ cs) = P i c × EachAt P is cs

-- Each offset has the certificate that a decode owes of the window there, under the ceiling of the bank: each is to be judged by
-- itself.
abbrev pub AreCertificates : Window → Bank → ℕ → List ℕ → List Certificate → Type 0
AreCertificates window bank workers offsets cs = EachAt (λ i c. IsBankCertificate (window_at window i) bank workers c) offsets cs

-- the certificates of a sweep around the phase of a decode: one for each offset that is swept, in their order
pub record SweptCertificates : Type 0 where
  pub phase : ℕ
  pub each : List Certificate

-- The certificates that are due, by the first rule that fits: none where no one asks for them; none where the configuration or a log
-- is refused; and those of the bank, whatever the answer is.
pub data AreCertificatesDue (words : List (List ℕ)) (contents : Contents) (owed : Option SweptCertificates) : Type 0 where
  Not_asked : certificates_name words ≡ None → owed ≡ None → AreCertificatesDue words contents owed
  Not_loaded : (o : CertificatesOrder) → AsksCertificates words o
      → (refusal : Refusal) → IsBankRefused contents refusal → owed ≡ None → AreCertificatesDue words contents owed
  Written : (o : CertificatesOrder) → AsksCertificates words o
      → (config : PlainConfig) → (records : List Records) → IsBankLoaded contents config records
      → (cs : List Certificate)
      → AreCertificates (window_of o.asked (bank_of config records).receivers) (bank_of config records) o.workers
      (swept_offsets (window_of o.asked (bank_of config records).receivers).phase) cs
      → owed ≡ Some (record { phase = (window_of o.asked (bank_of config records).receivers).phase; each = cs })
      → AreCertificatesDue words contents owed

-- the certificates of these offsets are written anew, in their order
abbrev pub certificates_written : List ℕ → List ℕ → List Certificate → List Output
certificates_written name [] cs = []
certificates_written name (i ∷ is) [] = []
certificates_written name (i ∷ is) (c ∷ cs) = record { file = file_at name i; anew = true; text = certificate_text c } ∷ certificates_written name is cs

-- all that such a sweep writes: the certificates, and behind them the report
abbrev pub sweep_outputs : List ℕ → List ℕ → List Certificate → Due → List Output
sweep_outputs name offsets cs due = certificates_written name offsets cs ++ printed due ∷ []

-- what the certificates of these offsets name, put together behind what stood before, as the keys that searches found
abbrev pub standing_named : List ℕ → List Certificate → Standing → Standing
standing_named [] cs s = s
standing_named (i ∷ is) [] s = s
standing_named (i ∷ is) (c ∷ cs) s = standing_named is cs (with_two s i c.head.first c.head.second)
