-- A refusal is due of a run too, and a judgement ends with 0 or 8.
use Rattle.std.proofs.Common.{◌≢◌}
use Rattle.due.specs.declared.check_due.CheckDue.TheVariants.{Certified, NotCertified}
use Rattle.due.specs.declared.status.Status.TheVariants.{Failed, NoMemory}
use Rattle.due.proofs.StatusLaws.{no_failure_is_due}
use Rattle.check_due.specs.declared.check_owed.CheckOwed.{CheckOwed}
use Rattle.check_due.specs.declared.check_owed.CheckOwed.TheVariants.{Judged, Told}
use Rattle.check_due.specs.CheckTexts.{owed_status}
use Rattle.check_due.proofs.laws.no_failure_is_due_of_a_check.Goals as goal

no_failure : (owed : CheckOwed) → (owed_status owed ≢ Failed) × (owed_status owed ≢ NoMemory)
no_failure (Told due) = no_failure_is_due due
no_failure (Judged (Certified window answer duts)) = (λ e. cc, λ e. cc)
no_failure (Judged (NotCertified fault)) = (λ e. cc, λ e. cc)

pub returns : goal.returns
returns c = record { failed = λ words owed. (no_failure owed).0; memory = λ words owed. (no_failure owed).1 }
