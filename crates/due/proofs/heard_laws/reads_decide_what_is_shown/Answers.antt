-- The law, from its lemmas.
use Rattle.due.proofs.HeardReadLaws.{same_heard, same_heard_reads}
use Rattle.due.proofs.heard_laws.reads_decide_what_is_shown.Goals as goal

pub returns : goal.returns
returns c = record { due = same_heard; reads = same_heard_reads }
