-- The law, from its lemmas.
use Rattle.judge_due.proofs.JudgeReadLaws.{same_judge_due, same_judge_reads}
use Rattle.judge_due.proofs.laws.reads_decide_a_judgement.Goals as goal

pub returns : goal.returns
returns c = record { due = same_judge_due; reads = same_judge_reads }
