-- The law, from its lemmas.
use Rattle.check_due.proofs.CheckReadLaws.{same_check_due, same_check_reads}
use Rattle.check_due.proofs.laws.reads_decide_a_check.Goals as goal

pub returns : goal.returns
returns c = record { due = same_check_due; reads = same_check_reads }
