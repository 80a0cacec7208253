-- How a decode ends that writes a certificate, once its bank is loaded.
use Rattle.std.specs.Prelude.{ℕ, ◌≡◌, true, List, [], ◌∷◌, Some, Result, Ok, Err}
use Rattle.signal_base.specs.declared.window.Window.{Window}
use Rattle.definitions.specs.declared.answer.Answer.{Answer}
use Rattle.definitions.specs.heard.Costs.{Costs}
use Rattle.bank_files.specs.Seen.{Seen}
use Rattle.certificates.specs.declared.certificate.Head.{Head}
use Rattle.certificates.specs.declared.certificate.Line.{Line}
use Rattle.certificates.specs.Certificates.{Certificate}
use Rattle.certificates.specs.Texts.{certificate_text}
use Rattle.certificate_texts.specs.Layout.{in_first_part}
use Rattle.certificate_walks.specs.Written.{AreTightWalks}
use Rattle.due.specs.declared.due.Due.{Due}
use Rattle.due.specs.declared.due.Due.TheVariants.{Report}
use Rattle.due.specs.declared.status.Status.{Status}
use Rattle.due.specs.Banks.{Bank, IsBankAnswer, duts_of}
use Rattle.due.specs.CertificateRules.{IsBankCertificate}
use Rattle.due.specs.Dues.{status_of}
use Rattle.due.specs.Outputs.{Output, printed}
use Rattle.due.specs.Owed.{Owed, owed_outputs}
use Rattle.bank.specs.declared.stop.Stop.{Stop}
use Rattle.bank.specs.declared.stop.Stop.TheVariants.{Failed, NoMemory}
use Rattle.bank.specs.Ending.{WritesAll}

-- this is owed for a bank in a window: the report of its answer, and its certificate
pub record IsOwedIn (window : Window) (bank : Bank) (workers : ℕ) (owed : Owed) : Type 0 where
  pub answer : Answer
  pub answer_is : IsBankAnswer window bank answer
  pub due_is : owed.due ≡ Report window answer (duts_of window bank answer)
  pub certificate : Certificate
  pub certificate_is : IsBankCertificate window bank workers certificate
  pub owed_is : owed.certificate ≡ Some certificate

-- All that is owed was written; or a front of it, of which there is one; or memory ran out before anything was.
abbrev pub Certifies : Window → Bank → ℕ → List ℕ → Seen → Seen → Result Status Stop → Type 0
Certifies window bank workers name old new (Ok status) =
    (owed : Owed) × IsOwedIn window bank workers owed × WritesAll {E = Unit {0}} (owed_outputs (Some name) owed) old new (Ok tt) × (status ≡ status_of owed.due)
Certifies window bank workers name old new (Err Failed) =
    (owed : Owed) → IsOwedIn window bank workers owed → WritesAll {E = Unit {0}} (owed_outputs (Some name) owed) old new (Err tt)
Certifies window bank workers name old new (Err NoMemory) = new ≡ old

-- a certificate's text, written anew, and then what is told
abbrev pub certified_outputs : List ℕ → List ℕ → Due → List Output
certified_outputs name text due = record { file = name; anew = true; text = text } ∷ printed due ∷ []

-- The certificate of a head and what is told were written, whole or a front of them. There is one list of tight walks.
abbrev pub DeliversCertified : {E : Type 0} → Costs → Head → ℕ → List ℕ → Due → Seen → Seen → Result (Unit {0}) E → Type 0
DeliversCertified costs head parts name due old new (Ok u) =
    (lines : List Line) × AreTightWalks costs head lines
    × WritesAll {E = Unit {0}} (certified_outputs name (certificate_text (in_first_part head parts lines)) due) old new (Ok tt)
DeliversCertified costs head parts name due old new (Err e) =
    (lines : List Line) → AreTightWalks costs head lines
    → WritesAll {E = Unit {0}} (certified_outputs name (certificate_text (in_first_part head parts lines)) due) old new (Err tt)
