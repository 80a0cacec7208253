-- It is what is told of the bank.
use Rattle.judge_due.specs.JudgeDues.{files_in}
use Rattle.sweep_due.specs.JudgeRules.JudgeDue.{Certified}
use Rattle.judge_due.proofs.CertifiedLaws.{all_good, swept_answer}
use Rattle.judge_due.proofs.JudgeDueLaws.{judged_of_bank}
use Rattle.judge_due.proofs.laws.what_is_certified_is_the_swept_answer.Goals as goal

pub returns : goal.returns
returns c = record {
  answer = λ words contents o config records told answer duts asks loaded owed.
      swept_answer _ _ (files_in contents) told answer duts (judged_of_bank contents words o config records (Certified told answer duts) asks loaded owed);
  good = λ words contents o config records told answer duts asks loaded owed.
      all_good _ _ (files_in contents) told answer duts (judged_of_bank contents words o config records (Certified told answer duts) asks loaded owed);
}
