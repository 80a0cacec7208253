-- By size, then by the text, then by the verdict.
use Rattle.std.proofs.Common.{subst, sym}
use Rattle.definitions.specs.answers.Answers.{IsWindowAnswer}
use Rattle.definitions.specs.answers.FirstTwo.{answer_from}
use Rattle.certificates.proofs.JudgedLaws.{judged, not_both, one_fault, one_pair}
use Rattle.certificates.proofs.laws.bytes_have_one_judgement.Goals as goal

pub returns-clause-some : goal.returns-clause-some
returns-clause-some c costs window ceiling bytes =
    judged costs window ceiling (λ b. c.bound_exists.ensures.bound costs window b) (λ b. c.bound_is_one.ensures.bound costs window b) bytes

pub returns-clause-one_fault : goal.returns-clause-one_fault
returns-clause-one_fault c costs window ceiling bytes =
    one_fault costs window ceiling (λ b. c.bound_exists.ensures.bound costs window b) (λ b. c.bound_is_one.ensures.bound costs window b) bytes

pub returns-clause-not_both : goal.returns-clause-not_both
returns-clause-not_both c costs window ceiling bytes =
    not_both costs window ceiling (λ b. c.bound_exists.ensures.bound costs window b) (λ b. c.bound_is_one.ensures.bound costs window b) bytes

pub returns-clause-one_pair : goal.returns-clause-one_pair
returns-clause-one_pair c costs window ceiling bytes =
    one_pair costs window ceiling (λ b. c.bound_exists.ensures.bound costs window b) (λ b. c.bound_is_one.ensures.bound costs window b) bytes

pub returns-clause-answer : goal.returns-clause-answer
returns-clause-answer c costs window ceiling bytes first second good =
    subst (λ f. IsWindowAnswer window costs ceiling (answer_from f second)) (sym good.first_is)
    (subst (λ s. IsWindowAnswer window costs ceiling (answer_from good.certificate.head.first s)) (sym good.second_is)
    (c.valid_certificates_name_the_first_two.ensures.answer costs window ceiling good.certificate good.valid))
