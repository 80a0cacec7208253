-- The law, from its lemmas.
use Rattle.due.proofs.ReadLaws.{same_due, same_owed, same_reads}
use Rattle.due.proofs.laws.reads_decide.Goals as goal

pub returns : goal.returns
returns c = record { due = same_due; owed = same_owed; reads = same_reads }
