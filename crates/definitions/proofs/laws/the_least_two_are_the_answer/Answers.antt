-- The least two keys give the answer.
use Rattle.definitions.specs.answers.Answers.{IsAdmitted}
use Rattle.definitions.specs.heard.Costs.{sequence_cost}
use Rattle.definitions.specs.sequences.Walks.{IsLegal}
use Rattle.definitions.proofs.AnswerLaws.{walkable_sequence}
use Rattle.definitions.proofs.EndLaws.{answer_is}
use Rattle.definitions.proofs.laws.the_least_two_are_the_answer.Goals as goal

pub returns : goal.returns
returns c = λ window costs ceiling first second within.
    answer_is (IsAdmitted (IsLegal window) (sequence_cost costs window) ceiling) (sequence_cost costs window)
    (λ q is. walkable_sequence window q within is.0.0) first second
