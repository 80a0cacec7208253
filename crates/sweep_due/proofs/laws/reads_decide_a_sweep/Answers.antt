-- The law, from its lemmas.
use Rattle.sweep_due.proofs.SweepReadLaws.{same_sweep_due, same_sweep_owed, same_sweep_reads}
use Rattle.sweep_due.proofs.laws.reads_decide_a_sweep.Goals as goal

pub returns : goal.returns
returns c = record { due = same_sweep_due; owed = same_sweep_owed; reads = same_sweep_reads }
