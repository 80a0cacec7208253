-- Whatever the plan is.
use Rattle.due.specs.HeardRuns.{heard_plan}
use Rattle.program.specs.Families.{plan_for}
use Rattle.program.proofs.RunLaws.{no_failure}
use Rattle.program.proofs.ending_examples.no_run_fails_without_a_failure.Goals as goal

pub returns-clause-tsbank : goal.returns-clause-tsbank
returns-clause-tsbank c live words old new run = no_failure (plan_for live words) old new run

pub returns-clause-tsheard : goal.returns-clause-tsheard
returns-clause-tsheard c words old new run = no_failure (heard_plan words) old new run
