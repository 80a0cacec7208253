-- The status and the text of what a check of a certificate owes.
use Rattle.std.specs.Prelude.{ℕ, List}
use Rattle.formats.specs.Refusals.{CertificateFault, certificate_fault_line}
use Rattle.formats.specs.Refusals.CertificateFault.{BadLine, NotAbove, OtherWindow, TooLarge, TooManySteps, Uncovered, WrongBound, WrongEnds}
use Rattle.formats.specs.Reports.{certified_report}
use Rattle.due.specs.declared.check_due.CertificateFault.{CertificateFault as ToldFault}
use Rattle.due.specs.declared.check_due.CertificateFault.TheVariants as told
use Rattle.due.specs.declared.check_due.CheckDue.{CheckDue}
use Rattle.due.specs.declared.check_due.CheckDue.TheVariants.{Certified, NotCertified}
use Rattle.due.specs.declared.status.Status.{Status}
use Rattle.due.specs.declared.status.Status.TheVariants.{BadCertificate, Done}

-- the fault, as the formats and the judgement of certificates name it
abbrev pub fault_of : ToldFault → CertificateFault
fault_of told.TooLarge = TooLarge
fault_of (told.BadLine line) = BadLine line
fault_of (told.TooManySteps line) = TooManySteps line
fault_of told.OtherWindow = OtherWindow
fault_of (told.Uncovered step) = Uncovered step
fault_of (told.WrongBound step) = WrongBound step
fault_of (told.NotAbove step) = NotAbove step
fault_of (told.WrongEnds key) = WrongEnds key

-- the status with which a run ends that told this
abbrev pub check_status : CheckDue → Status
check_status (Certified window answer duts) = Done
check_status (NotCertified fault) = BadCertificate

-- the bytes that a run adds to standard output
abbrev pub check_text : CheckDue → List ℕ
check_text (Certified window answer duts) = certified_report window duts answer
check_text (NotCertified fault) = certificate_fault_line (fault_of fault)
