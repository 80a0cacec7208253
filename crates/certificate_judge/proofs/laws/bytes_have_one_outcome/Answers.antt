-- By size, then by the text, then by the verdict.
use Rattle.certificate_judge.proofs.OutcomeLaws.{bad_outcome, good_outcome, one_outcome, some_outcome}
use Rattle.certificate_judge.proofs.laws.bytes_have_one_outcome.Goals as goal

pub returns-clause-some : goal.returns-clause-some
returns-clause-some c costs window ceiling bytes =
    some_outcome costs window ceiling (λ b. c.bound_exists.ensures.bound costs window b) (λ b. c.bound_is_one.ensures.bound costs window b) bytes

pub returns-clause-one : goal.returns-clause-one
returns-clause-one c costs window ceiling bytes =
    one_outcome costs window ceiling (λ b. c.bound_exists.ensures.bound costs window b) (λ b. c.bound_is_one.ensures.bound costs window b) bytes

pub returns-clause-bad : goal.returns-clause-bad
returns-clause-bad c costs window ceiling bytes =
    bad_outcome costs window ceiling (λ b. c.bound_exists.ensures.bound costs window b) (λ b. c.bound_is_one.ensures.bound costs window b) bytes

pub returns-clause-good : goal.returns-clause-good
returns-clause-good c costs window ceiling bytes =
    good_outcome costs window ceiling (λ b. c.bound_exists.ensures.bound costs window b) (λ b. c.bound_is_one.ensures.bound costs window b) bytes
