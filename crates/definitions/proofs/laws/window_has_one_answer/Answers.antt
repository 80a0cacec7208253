-- There is exactly one answer.
use Rattle.definitions.proofs.AnswerLaws.{window_answer_is_one}
use Rattle.definitions.proofs.ExistLaws.{an_answer}
use Rattle.definitions.proofs.laws.window_has_one_answer.Goals as goal

pub returns-clause-one : goal.returns-clause-one
returns-clause-one c = window_answer_is_one

pub returns-clause-some : goal.returns-clause-some
returns-clause-some c = an_answer
