-- The law, from its lemmas.
use Rattle.sweep_due.proofs.AnswerLaws.{keys_are_small, offset_is_swept, swept_answer_is, told_window_is}
use Rattle.sweep_due.proofs.search_laws.searches_decide_a_sweep.Goals as goal

pub returns : goal.returns
returns c = record {
  answer = λ window bank offsets s century phase all searched. swept_answer_is window bank century phase offsets all s searched;
  told = λ window bank offsets s century phase all searched. told_window_is window bank century phase offsets all s searched;
  offset = λ window bank offsets s century phase all searched. offset_is_swept window bank century phase offsets all s searched;
  keys = λ window bank offsets s century phase all searched. keys_are_small window bank century phase offsets all s searched;
}
