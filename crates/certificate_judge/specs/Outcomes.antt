-- What comes of bytes that are to be a certificate.
use Rattle.std.specs.Prelude.{ℕ, ◌≡◌, ◌<◌, ◌≤◌, List, length, Option, Some, None}
use Rattle.signal_base.specs.declared.window.Window.{Window}
use Rattle.definitions.specs.heard.Costs.{Costs}
use Rattle.formats.specs.Refusals.{CertificateFault}
use Rattle.formats.specs.Refusals.CertificateFault.{TooLarge as Too_large}
use Rattle.certificates.specs.declared.limits.TheConstants.{CERTIFICATE_LIMIT}
use Rattle.certificates.specs.declared.verdict.Verdict.{Verdict}
use Rattle.certificates.specs.Certificates.{Certificate}
use Rattle.certificates.specs.Judged.{line_fault, verdict_fault}
use Rattle.certificates.specs.Texts.{IsRefused, IsText}
use Rattle.certificates.specs.Verdicts.{IsVerdict}
use Rattle.certificate_judge.specs.declared.outcome.Outcome.{Outcome}
use Rattle.certificate_judge.specs.declared.outcome.Outcome.TheVariants.{TooLarge, Refused, Judged}

-- the bytes are the text of a certificate that names these keys, and on which this is the verdict
pub record HasVerdict (costs : Costs) (window : Window) (ceiling : ℕ) (bytes : List ℕ) (verdict : Verdict) (first second : Option ℕ) : Type 0 where
  pub certificate : Certificate
  pub text : IsText certificate bytes
  pub is : IsVerdict costs window ceiling certificate verdict
  pub first_is : first ≡ certificate.head.first
  pub second_is : second ≡ certificate.head.second

-- The first of these that is so: there are too many bytes; they are refused for a line; or the verdict.
abbrev pub IsOutcome : Costs → Window → ℕ → List ℕ → Outcome → Type 0
IsOutcome costs window ceiling bytes TooLarge = CERTIFICATE_LIMIT < length bytes
IsOutcome costs window ceiling bytes (Refused line fault) = (length bytes ≤ CERTIFICATE_LIMIT) × IsRefused bytes line fault
IsOutcome costs window ceiling bytes (Judged verdict first second) =
    (length bytes ≤ CERTIFICATE_LIMIT) × HasVerdict costs window ceiling bytes verdict first second

-- the fault that is told of them, if any
abbrev pub outcome_fault : Outcome → Option CertificateFault
outcome_fault TooLarge = Some Too_large
outcome_fault (Refused line fault) = Some (line_fault line fault)
outcome_fault (Judged verdict first second) = verdict_fault verdict

-- the keys that they name, where they can be read
abbrev pub first_named : Outcome → Option ℕ
first_named TooLarge = None
first_named (Refused line fault) = None
first_named (Judged verdict first second) = first

abbrev pub second_named : Outcome → Option ℕ
second_named TooLarge = None
second_named (Refused line fault) = None
second_named (Judged verdict first second) = second
