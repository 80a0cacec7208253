-- What can be found due of `follow`.
use Rattle.std.specs.Prelude.{◌≤◌, All, length}
use Rattle.texts.specs.Reportable.{IsReportable}
use Rattle.due.specs.declared.duts.TheConstants.{MOST_STATIONS}
use Rattle.bank.specs.Finding.{CanBeWritten as IsToBeTold}
use Rattle.follow_due.specs.declared.follow_due.FollowDue.{FollowDue}
use Rattle.follow_due.specs.declared.follow_due.FollowDue.TheVariants.{Told, Windows}
use Rattle.follow_due.specs.declared.window_report.WindowReport.{WindowReport}

-- what is told of a window can be written
abbrev pub CanBeReported : WindowReport → Type 0
CanBeReported told = IsReportable told.window told.answer × (length told.duts ≤ MOST_STATIONS)

-- its text can be written
abbrev pub CanBeWritten : FollowDue → Type 0
CanBeWritten (Told due) = IsToBeTold due
CanBeWritten (Windows reports) = All CanBeReported reports
