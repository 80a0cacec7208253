-- Whatever the plan is.
use Rattle.due.specs.HeardRuns.{heard_plan}
use Rattle.program.specs.Families.{plan_for}
use Rattle.program.proofs.RunLaws.{leaves_others}
use Rattle.program.proofs.ending_examples.runs_leave_other_files.Goals as goal

pub returns-clause-tsbank : goal.returns-clause-tsbank
returns-clause-tsbank c live words old new failures status run other file named outside =
    leaves_others (plan_for live words) old new failures status run other file named outside

pub returns-clause-tsheard : goal.returns-clause-tsheard
returns-clause-tsheard c words old new failures status run other file named =
    leaves_others (heard_plan words) old new failures status run other file named (named, tt)
