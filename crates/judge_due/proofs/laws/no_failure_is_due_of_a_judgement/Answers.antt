-- A refusal is due of a run too, and a judgement ends with 0 or 8.
use Rattle.std.proofs.Common.{◌≢◌}
use Rattle.due.specs.declared.status.Status.TheVariants.{Failed, NoMemory}
use Rattle.due.proofs.StatusLaws.{no_failure_is_due}
use Rattle.sweep_due.specs.JudgeRules.JudgeDue.{Certified, NotCertified}
use Rattle.judge_due.specs.JudgeTexts.{JudgeOwed, owed_status}
use Rattle.judge_due.specs.JudgeTexts.JudgeOwed.{Judged, Told}
use Rattle.judge_due.proofs.laws.no_failure_is_due_of_a_judgement.Goals as goal

no_failure : (owed : JudgeOwed) → (owed_status owed ≢ Failed) × (owed_status owed ≢ NoMemory)
no_failure (Told due) = no_failure_is_due due
no_failure (Judged (Certified window answer duts)) = (λ e. cc, λ e. cc)
no_failure (Judged (NotCertified offset fault)) = (λ e. cc, λ e. cc)

pub returns : goal.returns
returns c = record { failed = λ words owed. (no_failure owed).0; memory = λ words owed. (no_failure owed).1 }
