-- The law, from its lemmas.
use Rattle.judge_due.proofs.JudgeDueLaws.{one_judge_due, some_judge_due}
use Rattle.judge_due.proofs.laws.one_thing_is_due_of_a_judgement.Goals as goal

pub returns : goal.returns
returns c = record {
  some = λ words contents. some_judge_due contents c.one_thing_is_told_of_the_certificates_of_a_sweep.ensures.some words;
  one = λ words contents. one_judge_due contents c.one_thing_is_told_of_the_certificates_of_a_sweep.ensures.one words;
}
