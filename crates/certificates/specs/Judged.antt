-- What is found of bytes that are to be a certificate: they are a valid one, or the first of all that is wrong.
use Rattle.std.specs.Prelude.{ℕ, ◌≡◌, ◌<◌, ◌≤◌, ◌⊎◌, List, length, Option, Some, None}
use Rattle.signal_base.specs.declared.window.Window.{Window}
use Rattle.definitions.specs.heard.Costs.{Costs}
use Rattle.formats.specs.Refusals.{CertificateFault}
use Rattle.formats.specs.Refusals.CertificateFault.{TooLarge, BadLine, TooManySteps, OtherWindow, Uncovered, WrongBound, NotAbove, WrongEnds}
use Rattle.certificates.specs.declared.fault.CertificateLineFault.{CertificateLineFault}
use Rattle.certificates.specs.declared.fault.CertificateLineFault.TheVariants as line
use Rattle.certificates.specs.declared.limits.TheConstants.{CERTIFICATE_LIMIT}
use Rattle.certificates.specs.declared.verdict.Verdict.{Verdict}
use Rattle.certificates.specs.declared.verdict.Verdict.TheVariants as found
use Rattle.certificates.specs.Certificates.{Certificate}
use Rattle.certificates.specs.Texts.{IsRefused, IsText}
use Rattle.certificates.specs.Validity.{IsValid}
use Rattle.certificates.specs.Verdicts.{IsVerdict}

-- what is told of a bad line, and of a verdict: nothing where it is certified
abbrev pub line_fault : ℕ → CertificateLineFault → CertificateFault
line_fault number line.Shape = BadLine number
line_fault number line.TooManySteps = TooManySteps number

abbrev pub verdict_fault : Verdict → Option CertificateFault
verdict_fault found.Certified = None
verdict_fault found.OtherWindow = Some OtherWindow
verdict_fault (found.Uncovered step) = Some (Uncovered step)
verdict_fault (found.WrongBound step) = Some (WrongBound step)
verdict_fault (found.NotAbove step) = Some (NotAbove step)
verdict_fault (found.WrongEnds key) = Some (WrongEnds key)

-- The bytes are no valid certificate, for this: there are too many of them; or they are refused for a line; or else the verdict
-- on the certificate whose text they are.
abbrev pub IsBadCertificate : Costs → Window → ℕ → List ℕ → CertificateFault → Type 0
IsBadCertificate costs window ceiling bytes fault =
    ((CERTIFICATE_LIMIT < length bytes) × (fault ≡ TooLarge))
    ⊎ ((length bytes ≤ CERTIFICATE_LIMIT) × (number : ℕ) × (wrong : CertificateLineFault) × IsRefused bytes number wrong × (fault ≡ line_fault number wrong))
    ⊎ ((length bytes ≤ CERTIFICATE_LIMIT) × (c : Certificate) × (verdict : Verdict) × IsText c bytes × IsVerdict costs window ceiling c verdict
    × (verdict_fault verdict ≡ Some fault))

-- the bytes are a valid certificate, which names these keys
pub record IsGoodCertificate (costs : Costs) (window : Window) (ceiling : ℕ) (bytes : List ℕ) (first second : Option ℕ) : Type 0 where
  pub certificate : Certificate
  pub few : length bytes ≤ CERTIFICATE_LIMIT
  pub text : IsText certificate bytes
  pub valid : IsValid costs window ceiling certificate
  pub first_is : first ≡ certificate.head.first
  pub second_is : second ≡ certificate.head.second
