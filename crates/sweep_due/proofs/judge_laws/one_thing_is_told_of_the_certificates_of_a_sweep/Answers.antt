-- The law, from its lemmas.
use Rattle.sweep_due.proofs.JudgeLaws.{one_judged, some_judged}
use Rattle.sweep_due.proofs.judge_laws.one_thing_is_told_of_the_certificates_of_a_sweep.Goals as goal

pub returns : goal.returns
returns c = record { some = some_judged; one = λ window bank files a b century. one_judged window bank files century a b }
