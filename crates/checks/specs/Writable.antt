-- What can be written of what is due.
use Rattle.std.specs.Prelude.{◌≤◌, length}
use Rattle.texts.specs.Reportable.{IsReportable}
use Rattle.due.specs.declared.check_due.CheckDue.{CheckDue}
use Rattle.due.specs.declared.check_due.CheckDue.TheVariants.{Certified, NotCertified}
use Rattle.due.specs.declared.duts.TheConstants.{MOST_STATIONS}
use Rattle.bank.specs.Finding.{CanBeWritten as CanBePrinted}
use Rattle.check_due.specs.declared.check_owed.CheckOwed.{CheckOwed}
use Rattle.check_due.specs.declared.check_owed.CheckOwed.TheVariants.{Judged, Told}

-- what is told of a certificate
abbrev pub CanBeTold : CheckDue → Type 0
CanBeTold (Certified window answer duts) = IsReportable window answer × (length duts ≤ MOST_STATIONS)
CanBeTold (NotCertified fault) = Unit {0}

abbrev pub CanBeWritten : CheckOwed → Type 0
CanBeWritten (Told due) = CanBePrinted due
CanBeWritten (Judged due) = CanBeTold due
