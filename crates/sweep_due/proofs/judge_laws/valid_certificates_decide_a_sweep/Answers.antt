-- The law, from its lemma.
use Rattle.sweep_due.proofs.JudgeLaws.{named_is_searched}
use Rattle.sweep_due.proofs.judge_laws.valid_certificates_decide_a_sweep.Goals as goal

pub returns : goal.returns
returns c = λ window bank files. named_is_searched window bank files c.valid_certificates_name_the_first_two.ensures.keys
