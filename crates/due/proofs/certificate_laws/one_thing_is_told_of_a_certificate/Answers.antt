-- Bytes have one judgement.
use Rattle.due.specs.Banks.{costs_in}
use Rattle.due.proofs.CheckLaws.{names_answer, one_told, some_told}
use Rattle.due.proofs.certificate_laws.one_thing_is_told_of_a_certificate.Goals as goal

pub returns-clause-some : goal.returns-clause-some
returns-clause-some c window bank bytes = some_told window bank bytes

pub returns-clause-one : goal.returns-clause-one
returns-clause-one c window bank bytes = one_told window bank bytes

pub returns-clause-answer : goal.returns-clause-answer
returns-clause-answer c window bank bytes =
    names_answer window bank bytes (c.bytes_have_one_judgement.ensures.answer (costs_in window bank) window bank.ceiling bytes)
