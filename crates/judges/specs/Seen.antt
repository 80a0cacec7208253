-- What is owed, as the rules see it, what can be written of it, and the plan of a run over it.
use Rattle.std.specs.Prelude.{ℕ, ◌≤◌, List, length}
use Rattle.texts.specs.Reportable.{IsReportable}
use Rattle.due.specs.declared.duts.TheConstants.{MOST_STATIONS}
use Rattle.due.specs.CheckDues.{fault_of}
use Rattle.due.specs.Plans.{Plan}
use Rattle.sweep_due.specs.JudgeRules.JudgeDue.{Certified, NotCertified}
use Rattle.judge_due.specs.JudgePlans.{judge_plan}
use Rattle.judge_due.specs.JudgeTexts.{JudgeOwed as PlainOwed}
use Rattle.judge_due.specs.JudgeTexts.JudgeOwed.{Judged, Told}
use Rattle.bank.specs.Ending.{over}
use Rattle.bank.specs.Finding.{CanBeWritten as CanBePrinted}
use Rattle.judges.specs.declared.owed.JudgeOwed.{JudgeOwed}
use Rattle.judges.specs.declared.owed.JudgeOwed.TheVariants as kept

abbrev pub owed_seen : JudgeOwed → PlainOwed
owed_seen (kept.Told due) = Told due
owed_seen (kept.Certified window answer duts) = Judged (Certified window answer duts)
owed_seen (kept.NotCertified offset fault) = Judged (NotCertified offset (fault_of fault))

abbrev pub CanBeWritten : JudgeOwed → Type 0
CanBeWritten (kept.Told due) = CanBePrinted due
CanBeWritten (kept.Certified window answer duts) = IsReportable window answer × (length duts ≤ MOST_STATIONS)
CanBeWritten (kept.NotCertified offset fault) = Unit {0}

abbrev pub kept_plan : List (List ℕ) → Plan JudgeOwed
kept_plan words = over owed_seen (judge_plan words)
